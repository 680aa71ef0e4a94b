-- `masks::with` meets its contract.
use Rattle.masks.proofs.Member.{member_with}
use Rattle.masks.proofs.with.Goals as goal

pub returns : goal.returns
returns c t = member_with t c.args.m c.args.s c.requires
