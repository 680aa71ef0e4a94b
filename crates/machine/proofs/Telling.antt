-- Request C-12: the expression of a machine that calls make tells its walk, in one derivation (`tells`).
use Prim.Native.Nat.{ℕ, zero, suc, ◌≤◌}
use mathlib.Core.Path.{◌≡◌, refl, ap, sym, subst}
use mathlib.Core.Option.{Option, some}
use mathlib.Core.List.{List, [], ◌∷◌, ◌++◌, map, cons≢nil}
use native.Mathlib.Omega.{arith}
use Rattle.lists.specs.Tests.{◌among◌}
use Rattle.lists.proofs.Deciding.{keep_decides, map_in, map_out}
use Rattle.masks.specs.Mask.{◌∈◌}
use Rattle.rows.specs.declared.Row.{Row}
use Rattle.orderings.specs.Steps.{Claim, loops, mixes, Label, letter, ω, back, mix, Step, Possible, needs, Walk}
use Rattle.orderings.specs.Systems.{System, InForce, Allowed, Derivation, Has, depth}
use Rattle.orderings.specs.Timelines.{timelines}
use Rattle.orderings.specs.Decide.{step}
use Rattle.orderings.proofs.Walks.{allowed_use, allowed_change, allowed_step}
use Rattle.machine.specs.declared.Verdict.TheVariants.{NonEmpty}
use Rattle.machine.specs.declared.Phase.TheVariants.{Settled}
use Rattle.machine.specs.Machine.{Opening, Machine, open_claims}
use Rattle.machine.specs.Order.{Found, Candidate, Best}
use Rattle.machine.specs.Search.{shortest}
use Rattle.machine.specs.Text.{text}
use Rattle.machine.specs.WellFormed.{WellFormed}
use Rattle.machine.specs.Expression.{walk_in, pieces, tour, round_of, earlier, walk_text, spelled, part, expression_of}
use Rattle.machine.specs.Word.{Before, parts_text, WritesWalk, WritesTour, Part, Spells, TellsWalk}
use Rattle.machine.proofs.Statements.{settled_listed, printed_walk}
use Rattle.machine.proofs.Grounded.{Grounded, grounded, round_most}
use Rattle.machine.proofs.Tours.{round_is}
use Rattle.machine.proofs.Justified.{each_map, step_decides, written, written_hand, tour_is, tour_in, tour_round, pieces_are}
use Rattle.machine.proofs.Deriving.{Derives, derives}

module _ (rows : List Row) (l : List Opening) (ground : Grounded rows l) (w : Walk) (d : Derives rows l ground w) where
  abbrev S : System
  S = timelines rows

  abbrev D : Derivation S
  D = d.made

  abbrev Open : Claim → Type 0
  Open c = c among map (λ (o : Opening). o.claim) l

  -- the claim is in the derivation, and was opened in round n or before
  abbrev Under : ℕ → Claim → Type 0
  Under n c = Has S D c × Open c × (round_of l c ≤ n)

  never : {A : Type 0} (c : Claim) → Under 0 c → A
  never c h = let r = map_out (λ (o : Opening). o.claim) c l h.1 in
      absurd (omega (arith, h.2, ground.low r.0 r.1, ap (round_of l) r.2, round_is l ground.once r.0 r.1))

  -- a walk that is written for a claim of round n + 1 or before needs claims of round n or before
  within : (n : ℕ) (c : Claim) → Under (suc n) c → (v : Walk) → v among written rows l c → Allowed S (Under n) v
  within n c h v i = let a = d.closed c h.0 v i in let b = (written_hand rows l ground c h.1 v i).1 in
      allowed_change S (Has S D) (Under n) v a (λ x m. let f = allowed_use S (Before l c) v b x m in (
        allowed_use S (Has S D) v a x m,
        subst Open f.5 (map_in (λ (o : Opening). o.claim) f.3),
        omega (arith, h.2, f.6, ap (round_of l) f.4, ap (round_of l) f.5, round_is l ground.once f.0 f.2, round_is l ground.once f.1 f.3),
      ))

  -- where walks with claims of round n or before are written as R says, a step with a claim of round n + 1 or before is
  module _ (R : Step → List ℕ → Type 0) (inner : Step → List ℕ) (n : ℕ) (writes : (v : Walk) → Allowed S (Under n) v → WritesWalk R v (walk_text inner v)) where
    tour_writes : (P q : ℕ) (close : List ℕ) → q ∈ P → Under (suc n) (loops P) → WritesTour rows l D R P q close (text "(" ++ (walk_text inner (tour rows (earlier l (loops P)) P q) ++ close))
    tour_writes P q close h c = let T = tour rows (earlier l (loops P)) P q in let i = tour_in rows l ground P c.1 q h in (
      T,
      tour_is rows l ground P c.1 q h,
      (written rows l (loops P), d.lines_are (loops P) c.0, i, tour_round rows l ground P c.1 q h),
      (walk_text inner T, writes T (within n (loops P) c T i), refl),
    )

    piece_allowed : (P : ℕ) → Under (suc n) (mixes P) → (v : Walk) → v among pieces rows (earlier l (mixes P)) P → Allowed S (Under n) v
    piece_allowed P c [] i = tt
    piece_allowed P c (t ∷ v) i = within n (mixes P) c (t ∷ v) ((keep_decides step_decides (pieces rows (earlier l (mixes P)) P) (t ∷ v)).1 (i, cons≢nil))

    part_writes : (p : ℕ) (x : Label) (q : ℕ) → Possible rows p x q → InForce (Under (suc n)) (needs x) → Part rows l D R p x q (spelled rows l inner p x q)
    part_writes p (letter a) q h c = refl
    part_writes p (ω P) q h c = tour_writes P p (text ")w") h.0.1 c
    part_writes p (back P) q h c = tour_writes P q (text ")v") h.0.1 c
    part_writes p (mix P) q h c = let ps = pieces rows (earlier l (mixes P)) P in (
      ps,
      pieces_are rows l ground P c.1,
      (written rows l (mixes P), d.lines_are (mixes P) c.0, keep_decides step_decides ps),
      (map (walk_text inner) ps, each_map (WritesWalk R) (walk_text inner) ps (λ v i. writes v (piece_allowed P c v i)), refl),
    )

  -- a walk is written as its steps are
  walk_writes : (n : ℕ) → ((p : ℕ) (x : Label) (q : ℕ) → Possible rows p x q → InForce (Under n) (needs x) → Spells rows l D n (step p x q) (part rows l n (step p x q)))
      → (v : Walk) → Allowed S (Under n) v → WritesWalk (Spells rows l D n) v (walk_text (part rows l n) v)
  walk_writes n h v a = (
    map (part rows l n) v,
    each_map (Spells rows l D n) (part rows l n) v (λ t i. let s = allowed_step S (Under n) v a t i in h t.from t.label t.to s.0 s.1),
    texts v,
  )
    where
      texts : (v : Walk) → walk_text (part rows l n) v ≡ parts_text (map (part rows l n) v)
      texts [] = refl
      texts (t ∷ v) = refl

  -- what is computed for a step spells it
  spells : (n p : ℕ) (x : Label) (q : ℕ) → Possible rows p x q → InForce (Under n) (needs x) → Spells rows l D n (step p x q) (part rows l n (step p x q))
  unfolding Spells part
  spells zero p (letter a) q h c = refl
  spells zero p (ω P) q h c = never (loops P) c
  spells zero p (back P) q h c = never (loops P) c
  spells zero p (mix P) q h c = never (mixes P) c
  spells (suc n) p x q h c = part_writes (Spells rows l D n) (part rows l n) n (walk_writes n (spells n)) p x q h c

module _ (m : Machine) (wf : WellFormed m) (e : m.phase ≡ Settled NonEmpty) where
  abbrev rows : List Row
  rows = m.rows

  abbrev l : List Opening
  l = m.openings

  abbrev ground : Grounded rows l
  ground = grounded m wf

  -- request C-12
  pub tells : TellsWalk m (expression_of m)
  unfolding expression_of
  tells = record {
    told = f;
    best = b;
    derivation = d.made;
    valid = d.valid;
    accepts = ((f.start, c.1.0, c.0, c.1.1, c.1.2), d.allows);
    once = d.once;
    exactly = d.exactly;
    depths = depths;
    spelled = subst (λ (o : Option Found). WritesWalk (Spells rows l d.made m.rounds) f.walk (walk_text (part rows l m.rounds) (walk_in o))) (sym r.1)
        (walk_writes rows l ground f.walk d m.rounds (spells rows l ground f.walk d m.rounds) f.walk ready);
  }
    where
      r : (f : Found) × (shortest rows (open_claims m) ≡ some f) × Best rows (open_claims m) f
      r = let p = printed_walk m wf e in (p.0, p.1, p.2)

      f : Found
      f = r.0

      b : Best rows (open_claims m) f
      b = r.2

      c : Candidate rows (open_claims m) f
      c = b.is

      d : Derives rows l ground f.walk
      d = derives rows l ground f.walk c.2

      -- the round of a claim is its least depth, and it is no deeper here
      depths : (x : Claim) → Has (timelines rows) d.made x → record { round = depth (timelines rows) d.made x; claim = x } among l
      depths x h = let y = map_out (λ (o : Opening). o.claim) x l (d.opened x h) in let o = y.0 in
          let n = (((settled_listed m wf NonEmpty e).depths o).0 y.1).1.1 d.made d.valid (subst (Has (timelines rows) d.made) y.2 h) in
          let k : depth (timelines rows) d.made x ≡ o.round = omega (arith, n, d.shallow x, ap (round_of l) y.2, ap (depth (timelines rows) d.made) y.2, round_is l ground.once o y.1) in
          let z : ◌≡◌ {A = Opening} (record { round = depth (timelines rows) d.made x; claim = x }) (record { round = o.round; claim = o.claim }) = cc (k, y.2) in
          subst (λ (p : Opening). p among l) (sym z) y.1

      -- its claims were opened in rounds that are done
      ready : Allowed (timelines rows) (Under rows l ground f.walk d m.rounds) f.walk
      ready = allowed_change (timelines rows) (λ x. x among open_claims m) (Under rows l ground f.walk d m.rounds) f.walk c.2 (λ x i.
          let o = allowed_use (timelines rows) (λ x. x among open_claims m) f.walk c.2 x i in let y = map_out (λ (o : Opening). o.claim) x l o in (
            allowed_use (timelines rows) (Has (timelines rows) d.made) f.walk d.allows x i,
            o,
            omega (arith, ap (round_of l) y.2, round_is l ground.once y.0 y.1, round_most m wf y.0 y.1),
          ))
