-- `make_call` meets its contract: each byte by its call, and the others by none.
use Prim.Native.Nat.{◌+◌, ◌≤◌}
use native.Mathlib.Omega.{arith}
use mathlib.Core.Path.{refl}
use mathlib.Core.List.{[], ◌∷◌}
use Rattle.rows.proofs.Reading.{all_bytes}
use Rattle.machine.specs.Calls.{load, withdraw, close, round, reopen, verdict, print, save, expression}
use Rattle.machine.specs.Marks.{on, mark, return_to}
use Rattle.ffi_session.specs.Promise.{words, call_of}
use Rattle.ffi_session.proofs.Calling.{makes, makes_in, makes_none, marks_named, returns_named, none_named}
use Rattle.ffi_session.proofs.make_call.Goals as goal

pub returns-in-108 : goal.returns-in-108
unfolding call_of words
returns-in-108 c = makes _ _ 108 (on (load c.args.batch.now)) (all_bytes c.args.batch.now (λ i. omega (arith, c.type_inv.batch i))) refl c.in-108.is c.load.ensures

pub returns-in-119 : goal.returns-in-119
unfolding call_of words
returns-in-119 c = makes _ _ 119 (on (withdraw c.args.batch.now)) (all_bytes c.args.batch.now (λ i. omega (arith, c.type_inv.batch i))) refl c.in-119.is c.withdraw.ensures

pub returns-in-99 : goal.returns-in-99
unfolding call_of words
returns-in-99 c = makes _ _ 99 (on close) tt refl c.in-99.is c.close.ensures

pub returns-in-114 : goal.returns-in-114
unfolding call_of words
returns-in-114 c = makes _ _ 114 (on round) tt refl c.in-114.is c.round.ensures

pub returns-in-111 : goal.returns-in-111
unfolding call_of words
returns-in-111 c = makes _ _ 111 (on reopen) tt refl c.in-111.is c.reopen.ensures

pub returns-in-118 : goal.returns-in-118
unfolding call_of words
returns-in-118 c = makes _ _ 118 (on verdict) tt refl c.in-118.is c.verdict.ensures

pub returns-in-112 : goal.returns-in-112
unfolding call_of words
returns-in-112 c = makes_in _ _ 112 (on (print _)) tt refl c.in-112.is c.print.ensures

pub returns-in-115 : goal.returns-in-115
unfolding call_of words
returns-in-115 c = makes_in _ _ 115 (on (save _)) tt refl c.in-115.is c.save.ensures

pub returns-in-101 : goal.returns-in-101
unfolding call_of words
returns-in-101 c = makes_in _ _ 101 (on (expression _)) tt refl c.in-101.is c.expression.ensures

pub returns-in-49-to-52 : goal.returns-in-49-to-52
returns-in-49-to-52 c =
    let b = c.args.byte in
    let l : 49 ≤ b = omega arith in
    let h : b ≤ 52 = omega arith in
    makes _ _ b (mark ((b + 48) ∷ [])) tt (marks_named _ _ b l h) refl c.mark.ensures

pub returns-in-53-to-56 : goal.returns-in-53-to-56
returns-in-53-to-56 c =
    let b = c.args.byte in
    let l : 53 ≤ b = omega arith in
    let h : b ≤ 56 = omega arith in
    makes _ _ b (return_to ((b + 44) ∷ [])) tt (returns_named _ _ b l h) refl c.return_to.ensures

pub returns-in_default : goal.returns-in_default
returns-in_default c = makes_none _ _ _ (none_named _ _ _ (λ e. omega (arith, e)) (λ e. omega (arith, e)) (λ e. omega (arith, e)) (λ e. omega (arith, e)) (λ e. omega (arith, e)) (λ e. omega (arith, e)) (λ e. omega (arith, e)) (λ e. omega (arith, e)) (λ e. omega (arith, e)) (λ d h e. omega (arith, h, e)))

pub returns-in_default-2 : goal.returns-in_default-2
returns-in_default-2 c = makes_none _ _ _ (none_named _ _ _ (λ e. omega (arith, e)) (λ e. omega (arith, e)) (λ e. omega (arith, e)) (λ e. omega (arith, e)) (λ e. omega (arith, e)) (λ e. omega (arith, e)) (λ e. omega (arith, e)) (λ e. omega (arith, e)) (λ e. omega (arith, e)) (λ d h e. omega (arith, h, e)))
