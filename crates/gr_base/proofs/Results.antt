-- What is known of the value or of the error of a call, weakened.
use Rattle.std.specs.Prelude.{Result, Ok, Err, IfOk, IfErr}

pub IfOk-weaker : {A E : Type 0} (P Q : A → Type 0) (r : Result A E) → ((x : A) → P x → Q x) → IfOk r P → IfOk r Q
IfOk-weaker P Q (Ok x) step h = step x h
IfOk-weaker P Q (Err e) step h = tt

pub IfErr-weaker : {A E : Type 0} (P Q : E → Type 0) (r : Result A E) → ((e : E) → P e → Q e) → IfErr r P → IfErr r Q
IfErr-weaker P Q (Ok x) step h = tt
IfErr-weaker P Q (Err e) step h = step e h
