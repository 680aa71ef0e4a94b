-- What print answers, and what it leaves in the buffer: main laws `finds`, `prints`, `prints_vain`.
use Prim.Native.Nat.{ℕ, ◌+◌, ◌<◌, ◌≤◌}
use mathlib.Core.Path.{◌≡◌, refl, ap, sym, ◌∙◌, subst}
use mathlib.Core.Logic.{◌⊎◌, inl, ⊎_elim}
use mathlib.Core.List.{List, [], append_assoc, append-nil}
use native.Mathlib.Omega.{arith}
use lib.ListN.{length, get_or, replicate, get_or-replicate}
use Rattle.std.specs.Prelude.{Option, None}
use Rattle.lists.proofs.Deciding.{eqb_decides, not_so}
use Rattle.orderings.specs.Steps.{Claim, loops, mixes}
use Rattle.machine.specs.declared.Verdict.{Verdict}
use Rattle.machine.specs.declared.Verdict.TheVariants.{NonEmpty, Empty}
use Rattle.machine.specs.declared.Phase.TheVariants.{Settled}
use Rattle.machine.specs.Machine.{Machine, open_claims}
use Rattle.machine.specs.WellFormed.{WellFormed}
use Rattle.machine.specs.Sheet.{verdict_line}
use Rattle.machine.specs.Calls.{Answer, Next, written, TellsText}
use Rattle.machine.specs.Causes.{sheets}
use Rattle.machine.proofs.Answers.{tells_as}
use Rattle.machine.proofs.Outcomes.{writing}
use Rattle.machine.proofs.Statements.{printed_walk}
use Rattle.search.specs.declared.Claims.{Claims}
use Rattle.search.specs.declared.Endpoints.{Endpoints}
use Rattle.search.specs.Graph.{Graph, TurnedGraph}
use Rattle.rounds.specs.declared.Progress.{Progress}
use Rattle.rounds.specs.Arrays.{OpenPlaces}
use Rattle.rounds.specs.Promises.{vain}
use Rattle.rounds.proofs.Settled.{forced_of}
use Rattle.walks.specs.declared.found.FoundWalk.{FoundWalk}
use Rattle.walks.specs.Walks.{FirstWalk, Answers}
use Rattle.walks.proofs.Answers.{answers_none}
use Rattle.sheet_parts.specs.Openings.{upto, opening_in, openings_at}
use Rattle.sheet_parts.specs.Lines.{openings_text, walk_text}
use Rattle.sheet_parts.proofs.Upto.{upto_skip}
use Rattle.whole_sheet.proofs.Parts.{sheet_is}
use Rattle.whole_sheet.specs.Text.{sheet_text}
use Rattle.whole_sheet.specs.Promise.{Sought, FindsWalk, PrintsSheet, PrintsVain}

-- ---- the walk

pub finds : (words : List ℕ) (n k : ℕ) (g back : Graph) (points : Endpoints) (p : Progress) (force : Claims) (w : Option FoundWalk) → TurnedGraph g back
    → OpenPlaces p.loop_rounds k force.loops → OpenPlaces p.mix_rounds k force.mixes
    → FirstWalk words n back force points.initials points.finals w → FindsWalk NonEmpty words n k g points p w
finds words n k g back points p force w turned h i f m formed letters given kept =
    f g m.rows (open_claims m) k turned
    (record {
      masked = given.masked;
      forced = forced_of m formed g k given.sets_in p.loop_rounds p.mix_rounds kept.loops_are kept.mixes_are force h i;
    })
    (sym given.sets_in.count) letters formed.table given.initial_iff given.final_iff

-- ---- what is answered

-- a settled machine that is non-empty has a walk
some_walk_found : (m : Machine) → WellFormed m → m.phase ≡ Settled NonEmpty → Answers m.rows (open_claims m) None → ⊥
some_walk_found m formed e none_found =
    let i = answers_none m.rows (open_claims m) none_found in
    let j = (printed_walk m formed e).1 in
    let z : ◌≡◌ {A = ℕ} 0 1 = cc in absurd (omega arith)

-- so the walk that the sheet tells is the one that was found
told_found : (m : Machine) (v : Verdict) (w t : Option FoundWalk) → WellFormed m → m.phase ≡ Settled v → Sought m v w
    → (t ≡ w) ⊎ ((v ≡ NonEmpty) × (w ≡ None)) → t ≡ w
told_found m v w t formed e sought = ⊎_elim (λ i. i)
    (λ p. absurd (some_walk_found m formed (e ∙ ap Settled p.0) (subst (λ (x : Option FoundWalk). Sought m NonEmpty x) p.1 (subst (λ (y : Verdict). Sought m y w) p.0 sought))))

module _ (v : Verdict) (words : List ℕ) (n k : ℕ) (g : Graph) (points : Endpoints) (p : Progress) (old new : List ℕ) (r : Answer) where
  pub prints : (w t : Option FoundWalk) → FindsWalk v words n k g points p w → (t ≡ w) ⊎ ((v ≡ NonEmpty) × (w ≡ None))
      → TellsText (sheet_text v p g.sets k t) old new r → PrintsSheet v words n k g points p old new r
  prints w t finds told_of told m formed e letters given kept =
      let sought = finds m formed letters given kept in
      let same = told_found m v w t formed e sought told_of in
      let is = sheet_is m formed g.sets k given.sets_in p kept v t e (subst (Sought m v) (sym same) sought)
      ∙ sym (append_assoc (verdict_line v p.rounds) (openings_text p g.sets k) (walk_text t)) in
      tells_as (ap (written (length old)) (sym is) ∙ sym (ap (λ (x : Next). x.answer) (writing m (sheets v (length old) e)))) told

-- ---- nothing opened

-- no claim opens in a round from 1 on
none_in : (k : ℕ) (c : Claim) → opening_in (k + 1) 0 c ≡ []
unfolding opening_in
none_in k c = rw (not_so (eqb_decides 0 (k + 1)) (λ e. omega (arith, e))) refl

none_at : (l : List ℕ) (k i : ℕ) → i < 64 → openings_at (replicate 64 0) (replicate 64 0) l (k + 1) i ≡ []
none_at l k i low = rw (get_or-replicate {A = ℕ} 64 i 0 0 low, none_in k (loops (get_or l i 0)), none_in k (mixes (get_or l i 0))) refl

vain_text : (l : List ℕ) (k : ℕ) → k ≤ 64 → sheet_text Empty vain l k None ≡ verdict_line Empty 1
unfolding upto
vain_text l k few =
    rw (upto_skip (openings_at (replicate 64 0) (replicate 64 0) l 1) 0 k (omega arith) (λ t a b. none_at l 0 t (omega arith))) (append-nil _ ∙ append-nil _)

pub prints_vain : (old new : List ℕ) (r : Answer) → TellsText (verdict_line Empty 1) old new r → PrintsVain old new r
prints_vain old new r told words n k g points few =
    prints Empty words n k g points vain old new r None None (λ m formed letters given kept. refl) (inl refl) (subst (λ (l : List ℕ). TellsText l old new r) (sym (vain_text g.sets k few)) told)
