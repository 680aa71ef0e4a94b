-- `masks::exchange_rows` meets its contract: the first i rows of both blocks are done.
use Rattle.masks.proofs.Blocks.{Exchanging}
use Rattle.masks.proofs.exchange_rows.Given as goal

abbrev pub invariant-loop-i : goal.invariant-loop-i
invariant-loop-i l = Exchanging l.b l.g l.initial.m l.i l.m
