-- `put_limit` meets its contract: where the search finds no set, nothing is put.
use mathlib.Core.Logic.{inl, inr}
use native.Mathlib.Omega.{arith}
use lib.ListN.{length}
use Rattle.std.specs.Prelude.{Ok, Err}
use Rattle.sorted_keys.proofs.Keys.{word_searched}
use Rattle.automaton.proofs.Adding.{found_place, no_place, not_put}
use Rattle.automaton.proofs.put_limit.Goals as goal

pub returns-in-Ok : goal.returns-in-Ok
returns-in-Ok c =
    let a = c.args in
    let sets = a.sets.now in
    let at = c.in-Ok.at in record {
      place = at;
      is = found_place sets (length sets) a.set at (word_searched sets a.set (Ok at) c.in-Ok.ensures.bound c.in-Ok.ensures.position);
      within = inl c.in-Ok.ensures.bound;
      adds = c.put.ensures;
    }

pub returns-in_default : goal.returns-in_default
returns-in_default c =
    let a = c.args in
    let sets = a.sets.now in
    let at = c.in_default.field-0 in record {
      place = 64;
      is = no_place sets (length sets) a.set at c.requires.1 (word_searched sets a.set (Err at) c.in_default.ensures.bound c.in_default.ensures.position);
      within = inr (omega arith);
      adds = not_put a.graph.now a.base 64 a.s (omega arith);
    }
