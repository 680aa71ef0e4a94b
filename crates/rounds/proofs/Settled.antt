-- The rounds in arrays are the machine's, from closed (`closed_kept`, `closed_letters`) through each round (`stage_start`, `stage_more`, `round_kept`) to the end
-- of its rounds (`stage_end`, `closed_end`); its claims are paired (`stage_paired`, `round_paired`), and what is lacking inside sets is kept
-- from round to round (`tracked_start`, `tracked_more`).
use Prim.Native.Nat.{ℕ, suc, ◌+◌, ◌<◌, ◌≤◌}
use mathlib.Core.Path.{◌≡◌, refl, ap, sym, ◌∙◌, subst}
use mathlib.Core.Bool.{Bool, true, false, not, ◌&&◌}
use mathlib.Core.Logic.{◌⊎◌, inl, inr, ⊎_elim}
use mathlib.Core.List.{List, [], ◌∷◌}
use lib.ListN.{length, replicate}
use native.Mathlib.Omega.{arith}
use Rattle.lists.specs.Tests.{Decides, ◌among◌}
use Rattle.masks.specs.Mask.{member, ◌∈◌, ◌⊆◌}
use Rattle.masks.proofs.Member.{in_none, difference_left, difference_not}
use Rattle.lists.proofs.Deciding.{alike}
use Rattle.rows.specs.declared.Row.{Row}
use Rattle.rows.specs.Rows.{standing_sets}
use Rattle.orderings.specs.Decide.{accepts?}
use Rattle.orderings.proofs.Deciding.{accepts_decides}
use Rattle.orderings.specs.Steps.{Claim, loops, mixes}
use Rattle.machine.specs.declared.Phase.{Phase}
use Rattle.machine.specs.declared.Phase.TheVariants.{Running}
use Rattle.machine.specs.Machine.{Machine, open_with, judged, closed, open_claims, next_round}
use Rattle.machine.specs.Calls.{close, round, run}
use Rattle.machine.specs.WellFormed.{after, WellFormed}
use Rattle.machine.proofs.Settling.{below_next, after_after}
use Rattle.machine.proofs.History.{work_runs}
use Rattle.machine.proofs.Grounded.{grounded, open_by}
use Rattle.machine.proofs.Tours.{round_iff}
use Rattle.search.specs.declared.Claims.{Claims}
use Rattle.search.specs.Graph.{Graph, TurnedGraph}
use Rattle.search.specs.Hops.{WithNew, no_claims}
use Rattle.search.specs.Masked.{Forced}
use Rattle.search.specs.Promises.{AcceptsRight, AcceptsLetters, OpensBelow}
use Rattle.lacks.specs.declared.Lacks.{Lacks}
use Rattle.lacks.specs.Lacks.{LacksIn, Supplies, AboveNew}
use Rattle.candidates.specs.declared.Trial.{Trial}
use Rattle.candidates.specs.Promises.{LoopsAt, LiveBelow, Paired, LoopingAt, Handed, OpensAwaited}
use Rattle.candidates.proofs.Awaiting.{live_fewer}
use Rattle.candidates.proofs.Finding.{loops_more, loops_led, loops_led_back}
use Rattle.candidates.proofs.Holding.{paired_by}
use Rattle.row_table.specs.Arrays.{SetsIn}
use Rattle.row_table.proofs.Sets.{sets_in_held}
use Rattle.rounds.specs.Arrays.{rounds_of, OpenPlaces, Notes}
use Rattle.rounds.specs.Promises.{Given, LettersGiven, Mirrors}
use Rattle.rounds.proofs.OpenClaims.{forced_by, no_rounds}
use Rattle.rounds.proofs.Turn.{none_forced, walk_test, Turn, turn_kept, turn_forced}

-- closed, with a test of the walks that need no claim
closed_tested : (m : Machine) → length (standing_sets m.rows) ≤ 64 → (b : Bool) → b ≡ accepts? m.rows [] → Mirrors (closed m) (replicate 64 0) (replicate 64 0) (judged b false) 0
unfolding closed
closed_tested m few b e = record {
  loops_are = sym (no_rounds m.rows loops few);
  mixes_are = sym (no_rounds m.rows mixes few);
  phase_is = ap (λ (x : Bool). judged x false) e;
  count_is = refl;
}

-- with no claims in force
pub closed_kept : (m : Machine) {g : Graph} {initials finals n : ℕ} → Given m.rows g initials finals n → (b : Bool) → AcceptsRight g no_claims initials finals b
    → Mirrors (closed m) (replicate 64 0) (replicate 64 0) (judged b false) 0
closed_kept m {g} {n = n} given b r = closed_tested m given.table.few_sets b (walk_test m.rows given [] b (none_forced g n) r)

-- by letters alone
pub closed_letters : (m : Machine) {g : Graph} {initials finals : ℕ} → LettersGiven m.rows g initials finals → (b : Bool) → AcceptsLetters g initials finals b
    → Mirrors (closed m) (replicate 64 0) (replicate 64 0) (judged b false) 0
closed_letters m given b r = closed_tested m given.table.few_sets b
    (alike (r m.rows given.letters given.table.fit given.initial_iff given.final_iff) (accepts_decides m.rows []) (λ x. x) (λ x. x))

-- ---- one round

-- the masks of the places with a round are those of the claims that are open
pub forced_of : (m : Machine) → WellFormed m → (g : Graph) (n : ℕ) → SetsIn m.rows g.sets n → (loop-rounds mix-rounds : List ℕ)
    → loop-rounds ≡ rounds_of m loops → mix-rounds ≡ rounds_of m mixes
    → (force : Claims) → OpenPlaces loop-rounds n force.loops → OpenPlaces mix-rounds n force.mixes → Forced (λ c. c among open_claims m) g n force
forced_of m w g n d loop-rounds mix-rounds is_l is_m force f h =
    forced_by m g n (sets_in_held m.rows g.sets n d) d.count (λ r. 0 < r) (λ c. c among open_claims m) (round_iff m.openings (grounded m w).low) force
    (subst (λ (l : List ℕ). OpenPlaces l n force.loops) is_l f) (subst (λ (l : List ℕ). OpenPlaces l n force.mixes) is_m h)

-- what a round comes to, with the claims in force, those that it opens, and both
pub record Round (g : Graph) (initials finals n : ℕ) (force new all : Claims) (k : ℕ) (loop-rounds mix-rounds : List ℕ) (accepted vain : Bool) (loop_notes mix_notes : List ℕ) : Type 0 where
  pub opens : OpensBelow g force n n new
  pub with_new : WithNew force new all
  pub tested : AcceptsRight g all initials finals accepted
  pub vain_iff : Decides vain ((t : ℕ) → (¬ (t ∈ new.loops)) × (¬ (t ∈ new.mixes)))
  pub loop_noted : Notes loop-rounds new.loops (k + 1) loop_notes
  pub mix_noted : Notes mix-rounds new.mixes (k + 1) mix_notes

module _ (m : Machine) {g : Graph} {initials finals n : ℕ} (given : Given m.rows g initials finals n)
    {force new all : Claims} {loop-rounds mix-rounds : List ℕ} {phase : Phase} {k : ℕ} (kept : Mirrors m loop-rounds mix-rounds phase k)
    (forced : Forced (λ c. c among open_claims m) g n force) {accepted vain : Bool} {loop_notes mix_notes : List ℕ}
    (r : Round g initials finals n force new all k loop-rounds mix-rounds accepted vain loop_notes mix_notes) where
  notes : (claim : ℕ → Claim) (old now : List ℕ) (places : ℕ) → old ≡ rounds_of m claim → Notes old places (k + 1) now → Notes (rounds_of m claim) places (m.rounds + 1) now
  notes claim old now places is h = subst (λ (l : List ℕ). Notes l places (m.rounds + 1) now) is (subst (λ (i : ℕ). Notes old places (i + 1) now) kept.count_is h)

  turn : Turn m g initials finals n force new all accepted vain loop_notes mix_notes
  turn = record {
    given = given;
    forced = forced;
    opened = r.opens m.rows (open_claims m) (record { masked = given.masked; forced = forced }) (sym given.sets_in.count);
    with_new = r.with_new;
    tested = r.tested;
    vain_iff = r.vain_iff;
    loop_noted = notes loops loop-rounds loop_notes new.loops kept.loops_are r.loop_noted;
    mix_noted = notes mixes mix-rounds mix_notes new.mixes kept.mixes_are r.mix_noted;
  }

  pub next_kept : Mirrors (next_round m) loop_notes mix_notes (judged accepted vain) (k + 1)
  next_kept = let e : m.rounds + 1 ≡ k + 1 = omega (arith, kept.count_is) in
      subst (Mirrors (next_round m) loop_notes mix_notes (judged accepted vain)) e (turn_kept turn)

-- ---- from round to round

-- k rounds are done, with the claims in force and the rounds of the claims that the machine has then
pub record Stage (rows : List Row) (g : Graph) (n : ℕ) (force : Claims) (loop-rounds mix-rounds : List ℕ) (phase : Phase) (k : ℕ) : Type 0 where
  pub kept : Mirrors (after rows k) loop-rounds mix-rounds phase k
  pub forced : Forced (λ c. c among open_claims (after rows k)) g n force
  pub before : (j : ℕ) → j < k → (after rows j).phase ≡ Running

-- the sets at the places fresh loop; the other places are among those with no claim in force, at which the masks in to and from have states that
-- are lacking, forward and backward
pub record Tracked (g : Graph) (n : ℕ) (t : Trial) (lacks : Lacks) : Type 0 where
  pub looping : LoopingAt g t.force t.fresh
  pub live : ℕ
  pub live_is : LiveBelow t.force n live
  pub within : t.places ⊆ live
  pub to_lacks : LacksIn g t.force t.pieces live lacks.to
  pub from_lacks : (back : Graph) → TurnedGraph g back → LacksIn back t.force t.pieces live lacks.from

pub tracked_start : {g : Graph} {n : ℕ} (pieces places : ℕ) {lacks : Lacks} → LiveBelow no_claims n places → ((places : ℕ) → LacksIn g no_claims pieces places lacks.to)
    → ((back : Graph) → TurnedGraph g back → (places : ℕ) → LacksIn back no_claims pieces places lacks.from)
    → Tracked g n (record { force = no_claims; fresh = 0; pieces = pieces; places = places }) lacks
tracked_start pieces places is forward backward = record {
  looping = λ i h. absurd (in_none i h);
  live = places;
  live_is = is;
  within = λ i h. h;
  to_lacks = forward places;
  from_lacks = λ back turned. backward back turned places;
}

-- a round opens new claims, which are supplied
module _ {g : Graph} {n : ℕ} {t : Trial} {lacks : Lacks} (now : Tracked g n t lacks) where
  pub tracked_low : (i : ℕ) → i ∈ t.places → i < n
  tracked_low i h = ((now.live_is i).0 (now.within i h)).0

  pub handed : Handed g t lacks
  handed = record {
    looping = now.looping;
    to_lacks = λ i q h. now.to_lacks i q (now.within i h);
    from_lacks = λ back turned i q h. now.from_lacks back turned i q (now.within i h);
  }

  pub tracked_more : {new force : Claims} {lacks' : Lacks} (fresh live places : ℕ) → WithNew t.force new force → OpensAwaited g t.force n t.places new
      → ((s : ℕ) → member s fresh ≡ (member s new.loops && not (member s t.force.mixes))) → LiveBelow force n live → Supplies g new fresh live lacks.to lacks'.to
      → ((back : Graph) → TurnedGraph g back → Supplies back new fresh live lacks.from lacks'.from) → AboveNew g new live places
      → Tracked g n (record { force = force; fresh = fresh; pieces = t.pieces; places = places }) lacks'
  tracked_more {new} {force} fresh live places is opens is_fresh is_live forward backward above = let fewer = live_fewer now.live live is now.live_is is_live in record {
    looping = λ i h. loops_more is (looped i h);
    live = live;
    live_is = is_live;
    within = λ i h. ((above i).0 h).0;
    to_lacks = forward t.force force t.pieces now.live is fewer (λ i h. loops_led (looped i h)) now.to_lacks;
    from_lacks = λ back turned. backward back turned t.force force t.pieces now.live is fewer (λ i h. loops_led_back turned (looped i h)) (now.from_lacks back turned);
  }
    where
      looped : (i : ℕ) → i ∈ fresh → LoopsAt g t.force i
      looped i h = opens.tested i (difference_left new.loops t.force.mixes fresh is_fresh i h) (difference_not new.loops t.force.mixes fresh is_fresh i h)

module _ (rows : List Row) {g : Graph} {initials finals n : ℕ} (given : Given rows g initials finals n) where
  pub stage_start : (b : Bool) → AcceptsRight g no_claims initials finals b → Stage rows g n no_claims (replicate 64 0) (replicate 64 0) (judged b false) 0
  unfolding closed
  stage_start b r = record {
    kept = closed_kept (open_with rows) given b r;
    forced = none_forced g n;
    before = λ j l. absurd (omega arith);
  }

  pub stage_paired : {force : Claims} {loop-rounds mix-rounds : List ℕ} {phase : Phase} {k : ℕ} → Stage rows g n force loop-rounds mix-rounds phase k → Paired g force n
  stage_paired {k = k} s = paired_by (record { masked = given.masked; forced = s.forced }) (sym given.sets_in.count) k (after_after rows k).claims

  pub stage_more : {force new all : Claims} {loop-rounds mix-rounds : List ℕ} {phase : Phase} {k : ℕ} {accepted vain : Bool} {loop_notes mix_notes : List ℕ}
      → Stage rows g n force loop-rounds mix-rounds phase k → phase ≡ Running → Round g initials finals n force new all k loop-rounds mix-rounds accepted vain loop_notes mix_notes
      → Stage rows g n all loop_notes mix_notes (judged accepted vain) (k + 1)
  stage_more {all = all} {k = k} {accepted} {vain} {loop_notes} {mix_notes} s running r =
      let e : suc k ≡ k + 1 = omega arith in
      let here = subst (λ (l : List Row). Given l g initials finals n) (sym (after_after rows k).same_rows) given in
      subst (λ (j : ℕ). Stage rows g n all loop_notes mix_notes (judged accepted vain) j) e (record {
        kept = subst (Mirrors (next_round (after rows k)) loop_notes mix_notes (judged accepted vain)) (sym e) (next_kept (after rows k) here s.kept s.forced r);
        forced = turn_forced (turn (after rows k) here s.kept s.forced r);
        before = below_next {P = λ i. (after rows i).phase ≡ Running} k s.before (sym s.kept.phase_is ∙ running);
      })

-- the claims in force of a machine that calls made
pub round_paired : (m : Machine) → WellFormed m → {g : Graph} {initials finals n : ℕ} → Given m.rows g initials finals n
    → (force : Claims) {loop-rounds mix-rounds : List ℕ} {phase : Phase} {k : ℕ} → Mirrors m loop-rounds mix-rounds phase k
    → OpenPlaces loop-rounds n force.loops → OpenPlaces mix-rounds n force.mixes → Paired g force n
round_paired m w {g} {n = n} given force {loop-rounds} {mix-rounds} kept is_l is_m = let o = open_by m w in
    paired_by (record { masked = given.masked; forced = forced_of m w g n given.sets_in loop-rounds mix-rounds kept.loops_are kept.mixes_are force is_l is_m })
    (sym given.sets_in.count) o.0 o.1

-- a round of a machine that calls made, whose claims in force are read from the arrays
pub round_kept : (m : Machine) → WellFormed m → {g : Graph} {initials finals n : ℕ} → Given m.rows g initials finals n
    → (force new all : Claims) {loop-rounds mix-rounds : List ℕ} {phase : Phase} {k : ℕ} → Mirrors m loop-rounds mix-rounds phase k
    → OpenPlaces loop-rounds n force.loops → OpenPlaces mix-rounds n force.mixes → {accepted vain : Bool} {loop_notes mix_notes : List ℕ}
    → Round g initials finals n force new all k loop-rounds mix-rounds accepted vain loop_notes mix_notes → Mirrors (next_round m) loop_notes mix_notes (judged accepted vain) (k + 1)
round_kept m w {g} {n = n} given force new all {loop-rounds} {mix-rounds} kept is_l is_m r =
    next_kept m given kept (forced_of m w g n given.sets_in loop-rounds mix-rounds kept.loops_are kept.mixes_are force is_l is_m) r

-- running no more after k rounds, or as many done as were called for
pub stage_end : {rows : List Row} {g : Graph} {n : ℕ} {force : Claims} {loop-rounds mix-rounds : List ℕ} {phase : Phase} {k : ℕ}
    → Stage rows g n force loop-rounds mix-rounds phase k → (most : ℕ) → k ≤ most → (k ≡ most) ⊎ (¬ (phase ≡ Running))
    → Mirrors (run (open_with rows) (close ∷ replicate most round)) loop-rounds mix-rounds phase k
stage_end {rows} {loop-rounds = loop-rounds} {mix-rounds} {phase} {k} s most few ended =
    subst (λ (m : Machine). Mirrors m loop-rounds mix-rounds phase k)
    (sym (work_runs rows most k few s.before (⊎_elim inl (λ h. inr (λ e. h (s.kept.phase_is ∙ e))) ended))) s.kept

-- settled as it is closed
pub closed_end : (rows : List Row) {g : Graph} {initials finals n : ℕ} → Given rows g initials finals n → AcceptsRight g no_claims initials finals true
    → (most : ℕ) → Mirrors (run (open_with rows) (close ∷ replicate most round)) (replicate 64 0) (replicate 64 0) (judged true false) 0
closed_end rows given r most = stage_end (stage_start rows given true r) most (omega arith) (inr (λ e. let z : ◌≡◌ {A = ℕ} 0 1 = cc in absurd (omega arith)))
