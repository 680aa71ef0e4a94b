-- `masks::targets` meets its contract. The loop gathers the targets of each state of `m`.
use lib.ListN.{get_or}
use Rattle.masks.specs.Mask.{◌∈◌}
use Rattle.masks.proofs.Gathering.{Gathered}
use Rattle.masks.proofs.targets.Given as goal

abbrev pub invariant-loop-s : goal.invariant-loop-s
invariant-loop-s l = Gathered (λ i t. t ∈ get_or l.succ i 0) l.m l.s-iterator.rest l.r
