-- `Letters::new` meets its contract. The invariant: the words passed are chained by the states that they start from.
use mathlib.Core.Path.{◌≡◌}
use lib.ListN.{length}
use Rattle.chains.specs.Chains.{Chains}
use Rattle.rows.specs.Keys.{row_from}
use Rattle.walks.specs.Choices.{source}
use Rattle.walks.proofs.letters.Letters.new.Given as goal

abbrev pub invariant-loop-i : goal.invariant-loop-i
invariant-loop-i l = (length l.first ≡ 64) × (length l.next ≡ 256) × Chains (λ w. source (row_from w 0)) l.first l.next l.words l.i
