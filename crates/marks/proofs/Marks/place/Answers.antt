-- `place` meets its contract: the place of a name is that of its number.
use mathlib.Core.Path.{◌≡◌, ◌∙◌}
use native.Mathlib.Omega.{arith}
use mathlib.Core.Bool.{not}
use lib.ListN.{take}
use lib.Seq.{length-take-le}
use Rattle.std.specs.Prelude.{◌==◌}
use Rattle.std.proofs.lemmas.Bool.{not_from_false}
use Rattle.std.proofs.lemmas.List.Sums.{prefix_len-le-length}
use Rattle.lists.proofs.Deciding.{denied}
use Rattle.machine.specs.Marks.{Name}
use Rattle.marks.specs.declared.Mark.{Mark}
use Rattle.marks.specs.Promise.{place_under}
use Rattle.marks.proofs.Placing.{first_or_end, place_in}
use Rattle.marks.proofs.Marks.place.Goals.{Else-not-is_name}
use Rattle.marks.proofs.Marks.place.Goals as goal

-- it is a name
named : (c : Else-not-is_name) → Name c.args.name.now
named c = c.is_name.ensures.to c.if-not-is_name.false

pub returns-then-not-is_name : goal.returns-then-not-is_name
returns-then-not-is_name c = denied c.is_name.ensures (not_from_false _ c.if-not-is_name.true)

pub name_number-requires : goal.name_number-requires
name_number-requires c = (named (goal.at.name_number-requires c).Else-not-is_name).short

pub returns : goal.returns
returns c =
    let s = c.args.self.now in
    let name = c.args.name.now in
    let few = length-take-le s.count s.marks (omega arith) in
    let p = λ (k : Mark). k.name == c.name_number.result in
    let at = rw c.first_place-at.ensures at c.unwrap_or.ensures ∙ first_or_end p (take s.count s.marks) s.count few in
    record {
      is_name = named (goal.at.returns c).Else-not-is_name;
      within = omega (arith, at, prefix_len-le-length (λ (k : Mark). not (p k)) (take s.count s.marks));
      place_is = λ l st.
          let found : c.unwrap_or.result ≡ place_under name l = rw c.name_number.ensures at at ∙ place_in s name l st (named (goal.at.returns c).Else-not-is_name) in
          omega arith;
    }
