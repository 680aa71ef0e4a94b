-- `Letters::new` meets its contract. The invariant: the words passed are chained by the states that they start from.
use mathlib.Core.Path.{refl, ap, sym, ◌∙◌}
use native.Mathlib.Omega.{arith}
use lib.ListN.{length, length-set}
use Rattle.chains.proofs.Linking.{none_chained, chains_more}
use Rattle.rows.specs.Keys.{row_from}
use Rattle.walks.specs.Choices.{source}
use Rattle.walks.proofs.letters.Letters.new.Goals as goal

pub loop-i-init : goal.loop-i-init
loop-i-init c = (refl, refl, none_chained (λ w. source (row_from w 0)) 64 _ _)

pub loop-i-preserved : goal.loop-i-preserved
loop-i-preserved c =
    let inv = c.loop-i.invariant in
    let links = c.put.ensures.links in
    let newest = c.put.ensures.newest in (
      ap length newest ∙ length-set c.loop-i.first _ _ ∙ inv.0,
      ap length links ∙ length-set c.loop-i.next _ _ ∙ inv.1,
      chains_more inv.2 c.source.result (omega (arith, inv.0, c.source.ensures.low)) (omega (arith, inv.1))
          (sym (c.source.ensures.is ∙ ap source c.row_of.ensures)) links newest,
    )
