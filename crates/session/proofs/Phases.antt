-- Close, round, reopen and verdict: what the machine does, and what the session does.
use Prim.Native.Nat.{ℕ, ◌≤◌, ◌<◌}
use mathlib.Core.Path.{◌≡◌, refl}
use mathlib.Core.List.{List, []}
use lib.ListN.{replicate}
use native.Mathlib.Omega.{arith}
use Rattle.std.specs.Prelude.{Ok}
use Rattle.machine.specs.declared.Success.TheVariants.{Done, Decided}
use Rattle.machine.specs.declared.Verdict.{Verdict}
use Rattle.machine.specs.declared.Phase.{Phase}
use Rattle.machine.specs.declared.Phase.TheVariants.{Open, Running}
use Rattle.machine.specs.Machine.{closed, next_round, reopened}
use Rattle.machine.specs.Calls.{close, round, reopen, verdict, verdict_of, decide}
use Rattle.machine.specs.Causes.{NotOpen}
use Rattle.machine.specs.WellFormed.{most_done}
use Rattle.machine.specs.Marks.{on}
use Rattle.machine.proofs.Answers.{tells_decided}
use Rattle.machine.proofs.Outcomes.{deciding}
use Rattle.machine.proofs.Phases.{open_closes, running_rounds, not_open_reopens}
use Rattle.automaton.specs.declared.Automaton.{Automaton}
use Rattle.search.specs.Graph.{graph_of}
use Rattle.rounds.specs.declared.Progress.{Progress}
use Rattle.rounds.specs.Promises.{Closes, DoesRound}
use Rattle.rising.specs.Promises.{Judges}
use Rattle.session.specs.declared.Session.{Session}
use Rattle.session.specs.declared.Reply.{Reply}
use Rattle.session.specs.Promise.{Ranged, Promised, HasPhase}
use Rattle.session.specs.Standing.{reply, rounds_in, with_rounds, Reads, LettersOf}
use Rattle.session.proofs.Gate.{does_as, promised, done_in}
use Rattle.session.proofs.Rounded.{given_of, closed_record, reopened_record, round_record}

pub close_done : (s : Session) (graph : List ℕ) (initials finals : ℕ) → LettersOf s graph initials finals → (now : Progress) {r : Reply} → r ≡ reply (with_rounds s now) (Ok Done)
    → HasPhase s (Ok Open) → Closes (graph_of graph) initials finals now → Promised s (on close) [] [] r
close_done s graph initials finals h now made state c = done_in s closed state open_closes (λ x p. closed_record x s p graph initials finals now h c) made

module _ (s : Session) (a : Automaton) (reads : Reads s a) (now : Progress) {r : Reply} (made : r ≡ reply (with_rounds s now) (Ok Done)) where
  pub round_done : HasPhase s (Ok Running) → (before : Progress) → before ≡ rounds_in s
      → DoesRound (graph_of a.graph) a.initials a.finals s.set_count before now → Promised s (on round) [] [] r
  round_done state before k d =
      done_in s next_round state running_rounds (λ x p. round_record x s p a now reads (rw k at d)) made

-- a session has done no more rounds than calls lead to in its phase
rounds_most : (s : Session) (before : Progress) → before ≡ rounds_in s → {p : Phase} → Ranged s × (s.phase ≡ p) → before.rounds ≤ most_done p
rounds_most s before k h = rw k (rw h.1 at h.0.few_rounds)

-- a running one has room for a round
pub rounds_few : (s : Session) (before : Progress) → before ≡ rounds_in s → HasPhase s (Ok Running) → before.rounds < 129
rounds_few s before k h = omega (arith, rounds_most s before k h)

pub reopen_done : (s : Session) {r : Reply} → Ranged s → NotOpen s.phase
    → r ≡ reply (with_rounds s (record { loop_rounds = replicate 64 0; mix_rounds = replicate 64 0; phase = Open; rounds = 0 })) (Ok Done)
    → Promised s (on reopen) [] [] r
reopen_done s g n made = done_in s reopened (g, refl) (not_open_reopens n) (λ x p. reopened_record x s p) made

pub decides_rows : (s : Session) → Ranged s → (a : Automaton) → Reads s a → (v : Verdict) → Judges (graph_of a.graph) a.initials a.finals s.set_count v
    → Promised s (on verdict) [] [] (reply s (Ok (Decided v)))
decides_rows s ranged a reads v h = promised ranged refl
    (λ x p. does_as x verdict (decide x.now) (deciding x.now) p.whole (rw (h x.now.rows (given_of x s p a reads)) (tells_decided (verdict_of x.now.rows) [])))
