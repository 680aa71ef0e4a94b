-- `masks::first_masks` meets its contract: the copy is the front of the list.
use mathlib.Core.Path.{ap, ◌∙◌}
use lib.ListN.{get_or}
use Rattle.std.proofs.lemmas.List.{get_or-take}
use Rattle.masks.proofs.first_masks.Goals as goal

pub returns : goal.returns
returns c =
    let copied = c.write_over.ensures in
    record {
      length_is = copied.len;
      masks_are = λ i h. ap (λ m. get_or m i 0) copied.after ∙ get_or-take 64 c.args.succ.now i 0 h;
    }
