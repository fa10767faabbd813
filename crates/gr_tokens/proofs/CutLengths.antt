-- The tokens of a text are no more than its bytes.
use Rattle.std.specs.Prelude.{ℕ, ◌≤◌, List, [], ◌++◌, length}
use Rattle.std.proofs.Common.{ap, arith, length-append}
use Rattle.gr_tokens.specs.declared.Token.{Token}
use Rattle.gr_tokens.specs.Tokens.{IsCut, nothing, a_gap, a_token}
use Rattle.gr_tokens.specs.Answers.{AreTokens}
use Rattle.gr_tokens.proofs.Openers.{next_some}

-- each token has a byte at least
pub cut_few : (before bytes : List ℕ) (ts : List Token) (left : List ℕ) → IsCut before bytes ts left → length ts ≤ length bytes
cut_few before bytes _ _ nothing = omega arith
cut_few before bytes ts left (a_gap own rest f g s) = let a = cut_few (before ++ own) rest ts left s in let b = ap length f in let c = length-append own rest in omega arith
cut_few before bytes _ left (a_token {t = t} {ts = ts} own rest f k s) =
    let a = cut_few (before ++ own) rest ts left s in let b = ap length f in let c = length-append own rest in let d = next_some t.kind k.text own rest k.next in omega arith

pub tokens_few : (bytes : List ℕ) (ts : List Token) → AreTokens bytes ts → length ts ≤ length bytes
tokens_few bytes ts a = cut_few [] bytes ts [] a.cut
