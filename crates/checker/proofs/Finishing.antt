-- A table that is judged: the verdict of its machine (`is_judged`). One that is closed and settled: what its machine prints (`is_printed`), or writes
-- as an expression (`is_expressed`, `none_expressed`).
use Prim.Native.Nat.{ℕ}
use mathlib.Core.Path.{◌≡◌, ap, sym, ◌∙◌, subst}
use mathlib.Core.List.{List}
use lib.ListN.{length}
use Rattle.rows.specs.declared.Row.{Row}
use Rattle.std.specs.Prelude.{Ok, Err}
use Rattle.causes.specs.declared.Cause.{Cause}
use Rattle.causes.specs.declared.Cause.TheVariants.{VerdictEmpty}
use Rattle.causes.specs.Numbers.{number_of}
use Rattle.machine.specs.declared.Success.TheVariants.{Decided}
use Rattle.machine.specs.declared.Phase.{Phase}
use Rattle.machine.specs.declared.Phase.TheVariants.{Settled}
use Rattle.machine.specs.declared.Verdict.{Verdict}
use Rattle.machine.specs.declared.Verdict.TheVariants.{NonEmpty, Empty}
use Rattle.machine.specs.Machine.{Machine, open_with}
use Rattle.machine.specs.Calls.{Answer, Call, verdict, print, expression, Next, refuse, verdict_of, call_in, call, run, settle, Tells}
use Rattle.machine.specs.Causes.{expresses}
use Rattle.machine.specs.WellFormed.{Table}
use Rattle.machine.proofs.Settling.{settles, after_after}
use Rattle.machine.proofs.Answers.{refusal, tells_as, tells_decided, tells_refused}
use Rattle.machine.proofs.Outcomes.{deciding, writing}
use Rattle.machine.proofs.Phases.{empty_refuses}
use Rattle.machine.proofs.History.{settle_runs}
use Rattle.machine.proofs.Program.{settled_formed}
use Rattle.search.specs.Graph.{Graph, graph_of}
use Rattle.rounds.specs.declared.Progress.{Progress}
use Rattle.rounds.specs.Promises.{Mirrors, Settles}
use Rattle.rising.specs.Promises.{Judges}
use Rattle.expression.specs.Promise.{ExpressesWalk}
use Rattle.loader.specs.declared.LoadedGraph.{LoadedGraph}
use Rattle.loader.specs.Promise.{HoldsGraph}
use Rattle.whole_sheet.specs.Promise.{PrintsSheet}
use Rattle.whole_sheet.proofs.Automata.{given_rows}
use Rattle.checker.specs.Promise.{LoadedFrom}

-- what a load leaves, as the rounds are given it
pub loaded_from : {rows : List Row} → Table rows → {graph letters : List ℕ} {r : LoadedGraph} → HoldsGraph graph letters r rows → LoadedFrom (graph_of graph) letters r rows
loaded_from t h = record { given = given_rows t h.sets_in h.gives; letters_in = h.letters_in }

-- the rows that the masks are of
module _ {g : Graph} {letters : List ℕ} {loaded : LoadedGraph} {rows : List Row} (held : LoadedFrom g letters loaded rows) where
  t : Table rows
  t = held.given.table

  -- the verdict of an open machine
  pub is_judged : (old : List ℕ) (v : Verdict) → Judges g loaded.points.initials loaded.points.finals loaded.set_count v → Tells (call (open_with rows) verdict).answer old old (Ok (Decided v))
  is_judged old v h = rw (h rows held.given) (tells_as (ap (λ (x : Next). x.answer) (sym (deciding (open_with rows)))) (tells_decided (verdict_of rows) old))

  module _ (d : Progress) (s : Settles g loaded.points.initials loaded.points.finals loaded.set_count d) where
    abbrev m : Machine
    m = run (open_with rows) settle

    same_rows : m.rows ≡ rows
    same_rows = ap (λ (y : Machine). y.rows) (settle_runs rows t) ∙ (after_after rows (settles rows).rounds).same_rows

    kept : Mirrors m d.loop_rounds d.mix_rounds d.phase d.rounds
    kept = s rows held.given

    -- the masks and the words are those of its rows still
    then_held : LoadedFrom g letters loaded m.rows
    then_held = subst (LoadedFrom g letters loaded) (sym same_rows) held

    -- the machine that is not in the phase for a call refuses
    pub not_settled : (p : Phase) (cause : Cause) (c : Call) (old : List ℕ) → d.phase ≡ p → ((y : Machine) → call_in p y c ≡ refuse y (number_of cause)) → Tells (call m c).answer old old (Err (refusal cause 0))
    not_settled p cause c old e h =
        tells_as (ap (λ (x : Next). x.answer) (sym (ap (λ (x : Phase). call_in x m c) (sym kept.phase_is ∙ e) ∙ h m))) (tells_refused cause 0 old)

    -- its sheet
    pub is_printed : (v : Verdict) → d.phase ≡ Settled v → (old new : List ℕ) (r : Answer) → PrintsSheet v letters loaded.letter_count loaded.set_count g loaded.points d old new r
        → Tells (call m (print (length old))).answer old new r
    is_printed v e old new r h = h m (settled_formed rows t) (sym kept.phase_is ∙ e) then_held.letters_in then_held.given kept

    -- its expression, where it is settled as non-empty
    pub is_expressed : d.phase ≡ Settled NonEmpty → (old new : List ℕ) (r : Answer) → ExpressesWalk letters loaded.letter_count loaded.set_count g loaded.points d old new r
        → Tells (call m (expression (length old))).answer old new r
    is_expressed e old new r h =
        let phase = sym kept.phase_is ∙ e in
        tells_as (ap (λ (x : Next). x.answer) (sym (writing m (expresses (length old) phase))))
        (h m (settled_formed rows t) phase then_held.letters_in then_held.given kept)

    -- and where it is settled as empty
    pub none_expressed : d.phase ≡ Settled Empty → (old : List ℕ) → Tells (call m (expression (length old))).answer old old (Err (refusal VerdictEmpty 0))
    none_expressed e old = not_settled (Settled Empty) VerdictEmpty (expression (length old)) old e (empty_refuses (length old))
