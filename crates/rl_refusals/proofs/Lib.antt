mod PartLemmas
mod OneLine
