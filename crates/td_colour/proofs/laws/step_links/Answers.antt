use Rattle.td_colour.proofs.Linking.{links_kept, insert_links, merge_adds, merge_links}
use Rattle.td_colour.proofs.laws.step_links.Goals as goal

pub returns : goal.returns
returns c = record {
  kept = λ d m F s f step. links_kept d m F f s step;
  insert = λ d m F under from to f step. insert_links d m F f under from to step;
  linked = λ d m F at f head. merge_adds d m F f at head;
  merge = λ d m F at f head. merge_links d m F f at head;
}
