-- The rounds of claims (`round_found`, `round_is`), the claims that are open (`round_iff`) and those opened in earlier rounds (`below_iff`,
-- `round_below`, `earlier_iff`); the neighbour walks and pieces that are computed are those that request C-12 asks for (`nearest_foremost`,
-- `piece_foremost`).
use Prim.Native.Nat.{ℕ, ◌≤◌, ◌<◌, ◌+◌}
use mathlib.Core.Path.{◌≡◌, refl, ap, sym, ◌∙◌, subst}
use mathlib.Core.Bool.{Bool, true, false, cond}
use mathlib.Core.Option.{Option, none, some, none-ne-some}
use mathlib.Core.Logic.{◌⊎◌, inl, inr, ⊎_elim, ◌↔◌, ◌≢◌}
use mathlib.Core.List.Memᴰ
use mathlib.Core.List.{List, [], ◌∷◌, ◌++◌, map, cons≢nil}
use lib.Dec.{ltb}
use lib.ListN.{length, length-append}
use native.Mathlib.Omega.{arith}
use Rattle.lists.specs.Tests.{Decides, ◌among◌, ◌part_of◌, Once, keep, gather}
use Rattle.lists.specs.Order.{sort_by}
use Rattle.lists.proofs.Deciding.{keep_decides, ltb_decides, yes_decides, no_decides, map_in, map_out}
use Rattle.lists.proofs.Sorting.{sort_iff, sort_sorted}
use Rattle.rows.specs.declared.Row.{Row}
use Rattle.rows.specs.declared.Row.TheVariants.{LeftLimit, RightLimit}
use Rattle.rows.proofs.Same.{stands_decides}
use Rattle.orderings.specs.Steps.{Claim, Step, members, Walk, Leads, Inside, On}
use Rattle.orderings.specs.Claims.{Through, Entrance, Exit}
use Rattle.orderings.specs.Systems.{System, Allowed, AtHand}
use Rattle.orderings.specs.Timelines.{timelines}
use Rattle.orderings.specs.Decide.{same_claim, steps_in, entrances, exits}
use Rattle.orderings.proofs.Walks.{allowed_more}
use Rattle.orderings.proofs.Timelines.{members_iff}
use Rattle.orderings.proofs.Steps.{leads_append, on_middle, runs_cut}
use Rattle.orderings.proofs.Reach.{shorten_some}
use Rattle.orderings.proofs.Deciding.{same_claim_decides, steps_allowed, inside_iff}
use Rattle.machine.specs.Machine.{Opening}
use Rattle.machine.specs.Order.{step_key, Found, Foremost}
use Rattle.machine.specs.Expression.{walk_in, ordered, least_by, nearest, piece, claims_below, round_of, earlier}
use Rattle.machine.specs.Word.{round_trip, Before, found}
use Rattle.machine.proofs.Walks.{foremost_of}
use Rattle.machine.proofs.Nearest.{agree, RunsOn, least_sound, least_best}

-- ---- the claims of earlier rounds

-- the round of a claim is that of its opening, or 0 where nothing opened it
pub round_found : (c : Claim) (l : List Opening) → (¬ (c among map (λ (o : Opening). o.claim) l) × (round_of l c ≡ 0)) ⊎ (record { round = round_of l c; claim = c } among l)
round_found c [] = inl ((λ m. Memᴰ.not-nil m), refl)
round_found c (o ∷ l) = go (same_claim c o.claim) (same_claim_decides c o.claim) (round_found c l)
  where
    go : (b : Bool) → Decides b (c ≡ o.claim) → (¬ (c among map (λ (o : Opening). o.claim) l) × (round_of l c ≡ 0)) ⊎ (record { round = round_of l c; claim = c } among l)
        → (¬ (c among (o.claim ∷ map (λ (o : Opening). o.claim) l)) × (cond b o.round (round_of l c) ≡ 0)) ⊎ (record { round = cond b o.round (round_of l c); claim = c } among (o ∷ l))
    go true d r = inr (Memᴰ.head (ap (λ (e : Claim). record { round = o.round; claim = e }) (yes_decides d)))
    go false d r = ⊎_elim (λ p. inl ((λ m. ⊎_elim (λ e. no_decides d e) (λ i. p.0 i) (Memᴰ.cases_cons m)), p.1)) (λ i. inr (Memᴰ.tail i)) r

-- where no claim is opened twice, the round of a claim that is open is that of its opening
pub round_is : (l : List Opening) → Once (map (λ (o : Opening). o.claim) l) → (o : Opening) → o among l → round_of l o.claim ≡ o.round
round_is [] u o m = absurd (Memᴰ.not-nil m)
round_is (x ∷ l) u o m = go (same_claim o.claim x.claim) (same_claim_decides o.claim x.claim) (Memᴰ.cases_cons m) (round_is l u.1 o)
  where
    go : (b : Bool) → Decides b (o.claim ≡ x.claim) → (o ≡ x) ⊎ o among l → (o among l → round_of l o.claim ≡ o.round) → cond b x.round (round_of l o.claim) ≡ o.round
    go true d (inl e) f = ap (λ (y : Opening). y.round) (sym e)
    go true d (inr i) f = absurd (u.0 (subst (λ c. c among map (λ (y : Opening). y.claim) l) (yes_decides d) (map_in (λ (y : Opening). y.claim) i)))
    go false d (inl e) f = absurd (no_decides d (ap (λ (y : Opening). y.claim) e))
    go false d (inr i) f = f i

-- the claim was opened in a round before k
abbrev pub OpenedBelow : List Opening → ℕ → Claim → Type 0
OpenedBelow l k d = (o : Opening) × o among l × (o.claim ≡ d) × (o.round < k)

pub below_iff : (l : List Opening) (k : ℕ) (d : Claim) → d among claims_below k l ↔ OpenedBelow l k d
below_iff l k d = (
  (λ m. let r = map_out (λ (o : Opening). o.claim) d (keep (λ o. ltb o.round k) l) m in let s = (keep_decides (λ (o : Opening). ltb_decides o.round k) l r.0).0 r.1 in (r.0, s.0, sym r.2, s.1)),
  λ r. subst (λ c. c among claims_below k l) r.2 (map_in (λ (o : Opening). o.claim) ((keep_decides (λ (o : Opening). ltb_decides o.round k) l r.0).1 (r.1, r.3))),
)

-- where every opening has a round, the round of a claim is not 0 just where it is open
pub round_iff : (l : List Opening) → ((o : Opening) → o among l → 1 ≤ o.round) → (c : Claim) → (0 < round_of l c) ↔ c among map (λ (o : Opening). o.claim) l
round_iff l low c =
    ⊎_elim (λ p. ((λ g. absurd (omega (arith, p.1))), λ m. absurd (p.0 m))) (λ i. ((λ g. map_in (λ (o : Opening). o.claim) i), λ m. omega (arith, low _ i))) (round_found c l)

-- and it is before k just where it was opened in a round before
pub round_below : (l : List Opening) → Once (map (λ (o : Opening). o.claim) l) → ((o : Opening) → o among l → 1 ≤ o.round)
    → (k : ℕ) (c : Claim) → ((0 < round_of l c) × (round_of l c < k)) ↔ c among claims_below k l
round_below l u low k c = (
  (λ h. ⊎_elim (λ p. absurd (omega (arith, p.1, h.0))) (λ i. (below_iff l k c).1 (record { round = round_of l c; claim = c }, i, refl, h.1)) (round_found c l)),
  λ m. let r = (below_iff l k c).0 m in let e = ap (round_of l) r.2 in let f = round_is l u r.0 r.1 in
      (omega (arith, e, f, low r.0 r.1), omega (arith, e, f, r.3)),
)

module _ (l : List Opening) (u : Once (map (λ (o : Opening). o.claim) l)) (o : Opening) (i : o among l) where
  -- the list of earlier claims has those opened in a round before
  pub earlier_iff : (d : Claim) → d among earlier l o.claim ↔ Before l o.claim d
  unfolding earlier
  earlier_iff d = let e = round_is l u o i in (
    (λ m. let r = (below_iff l (round_of l o.claim) d).0 m in (o, r.0, i, r.1, refl, r.2, omega (arith, e, r.3))),
    λ b. (below_iff l (round_of l o.claim) d).1 (b.1, b.3, b.5, let f = round_is l u b.0 b.2 in let g = ap (round_of l) b.4 in omega (arith, f, g, b.6)),
  )

-- ---- walks

some_length : (w : Walk) → w ≢ [] → 1 ≤ length w
some_length [] n = absurd (n refl)
some_length (t ∷ w) n = omega arith

length_some : (w : Walk) → 1 ≤ length w → w ≢ []
length_some [] h = absurd (omega arith)
length_some (t ∷ w) h = cons≢nil

part_append : {A : Type 0} (v w G : List A) → v part_of G → w part_of G → (v ++ w) part_of G
part_append v w G p q s m = ⊎_elim (p s) (q s) (Memᴰ.append_cases v m)

-- a leg of a walk, of no more steps than there are to choose from
leg : (G : List Step) (a b : ℕ) (w : Walk) → Leads a w b → w part_of G → (v : Walk) × Leads a v b × v part_of G × (length v ≤ length G) × ((w ≡ []) ⊎ (1 ≤ length v))
leg G a b [] h p = ([], h, p, omega arith, inl refl)
leg G a b (t ∷ w) h p = let r = shorten_some G a b (t ∷ w) h p cons≢nil in (r.0, r.1, r.2, r.4, inr (some_length r.0 r.3))

module _ (rows : List Row) where
  abbrev S : System
  S = timelines rows

  entrances_iff : (P e : ℕ) → e among entrances rows P ↔ Entrance rows P e
  entrances_iff P e = let k = keep_decides (λ (e : ℕ). stands_decides (LeftLimit P e) rows) (members P) e in
      ((λ m. let r = k.0 m in ((members_iff P e).0 r.0, r.1)), λ h. k.1 ((members_iff P e).1 h.0, h.1))

  exits_iff : (P f : ℕ) → f among exits rows P ↔ Exit rows P f
  exits_iff P f = let k = keep_decides (λ (f : ℕ). stands_decides (RightLimit f P) rows) (members P) f in
      ((λ m. let r = k.0 m in ((members_iff P f).0 r.0, r.1)), λ h. k.1 ((members_iff P f).1 h.0, h.1))

  -- the claims of a list L are those in force
  module _ (L : List Claim) (In : Claim → Type 0) (same : (d : Claim) → d among L ↔ In d) (P : ℕ) where
    abbrev G : List Step
    G = ordered rows L P

    uses_iff : (w : Walk) → w part_of G ↔ (Inside P w × Allowed S In w)
    uses_iff w = (
      (λ p. let r = (inside_iff rows L P w).0 (λ t m. (sort_iff step_key (steps_in rows L P) t).0 (p t m)) in
          (r.1, allowed_more S (λ d. (same d).0) w ((steps_allowed rows L w).0 r.0))),
      λ h t m. (sort_iff step_key (steps_in rows L P) t).1 ((inside_iff rows L P w).1 ((steps_allowed rows L w).1 (allowed_more S (λ d. (same d).1) w h.1), h.0) t m),
    )

    -- from a to b
    abbrev pub Goes : ℕ → ℕ → Found → Type 0
    Goes a b f = (f.start ≡ a) × Leads f.start f.walk b × (Inside P f.walk × Allowed S In f.walk × (f.walk ≢ []))

    goes_runs : (a b : ℕ) (f : Found) → Goes a b f → RunsOn G (b ∷ []) (a ∷ []) none 1 f
    goes_runs a b f h = ((Memᴰ.head h.0, (b, h.1, Memᴰ.head refl, (uses_iff f.walk).1 (h.2.0, h.2.1), tt)), some_length f.walk h.2.2)

    runs_goes : (a b : ℕ) (f : Found) → RunsOn G (b ∷ []) (a ∷ []) none 1 f → Goes a b f
    runs_goes a b f h = let r = h.0.1 in let k = (uses_iff f.walk).0 r.3 in
        (Memᴰ.eq_of_singleton h.0.0, subst (Leads f.start f.walk) (Memᴰ.eq_of_singleton r.2) r.1, (k.0, k.1, length_some f.walk h.1))

    -- where a walk leads from a to b inside P, the foremost is found
    pub nearest_foremost : (a b : ℕ) → Through (AtHand S In) P a b → Foremost (Goes a b) (found a (nearest rows L P a b))
    unfolding nearest
    nearest_foremost a b t =
        let v = shorten_some G a b t.0 t.2 ((uses_iff t.0).1 (t.3, t.1.1)) t.4 in
        let k = (uses_iff v.0).0 v.2 in
        let r = least_best G (b ∷ []) (a ∷ []) none (sort_sorted step_key (steps_in rows L P)) ((λ y m. absurd (Memᴰ.not-nil m)), tt) (length G) 1 (found a v.0)
        (goes_runs a b (found a v.0) (refl, v.1, (k.0, k.1, v.3))) (omega (arith, v.4)) in
        let f = r.0 in let h = foremost_of f (runs_goes a b) (goes_runs a b) r.2 in
        subst (λ (o : Option Found). Foremost (Goes a b) (found a (walk_in o))) (sym r.1) (subst (λ (x : ℕ). Foremost (Goes a b) (found x f.walk)) h.is.0 h)

    -- pieces that have s at an end of a step
    abbrev pub By : ℕ → Found → Type 0
    By s f = Entrance rows P f.start × ((e : ℕ) × Exit rows P e × Leads f.start f.walk e) × On s f.start f.walk × (Inside P f.walk × Allowed S In f.walk × (f.walk ≢ []))

    abbrev begins : List ℕ
    begins = sort_by (λ a. a ∷ []) (entrances rows P)

    by_runs : (s : ℕ) (f : Found) → By s f → RunsOn G (exits rows P) begins (some s) 1 f
    by_runs s f h = let e = h.1 in let x = h.3 in (
      ((sort_iff (λ a. a ∷ []) (entrances rows P) f.start).1 ((entrances_iff P f.start).1 h.0), (e.0, e.2, (exits_iff P e.0).1 e.1, (uses_iff f.walk).1 (x.0, x.1), h.2)),
      some_length f.walk x.2,
    )

    runs_by : (s : ℕ) (f : Found) → RunsOn G (exits rows P) begins (some s) 1 f → By s f
    runs_by s f h = let r = h.0.1 in let k = (uses_iff f.walk).0 r.3 in (
      (entrances_iff P f.start).0 ((sort_iff (λ a. a ∷ []) (entrances rows P) f.start).0 h.0.0),
      (r.0, (exits_iff P r.0).0 r.2, r.1),
      r.4,
      (k.0, k.1, length_some f.walk h.1),
    )

    abbrev search : ℕ → Option Found
    search s = least_by G begins (exits rows P) (some s) (length G + length G) 1

    -- where there is a piece the foremost is found: two legs are enough
    by_found : (s : ℕ) (g : Found) → By s g → (f : Found) × (search s ≡ some f) × Foremost (By s) f
    by_found s g h =
        let e = h.1 in let x = h.3 in
        let c = runs_cut rows In P s g.start g.walk e.0 (e.2, x.1, x.0) h.2 in
        let v = leg G g.start s c.0 c.2.0 ((uses_iff c.0).1 (c.2.2, c.2.1)) in
        let w = leg G s e.0 c.1 c.3.0 ((uses_iff c.1).1 (c.3.2, c.3.1)) in
        let n : 1 ≤ length (v.0 ++ w.0) = ⊎_elim
        (λ i. ⊎_elim (λ j. absurd (x.2 (c.4 ∙ (ap (λ (y : Walk). y ++ c.1) i ∙ j)))) (λ j. omega (arith, j, length-append v.0 w.0)) w.4)
        (λ i. omega (arith, i, length-append v.0 w.0)) v.4 in
        let k = (uses_iff (v.0 ++ w.0)).0 (part_append v.0 w.0 G v.2 w.2) in
        let g' = found g.start (v.0 ++ w.0) in
        let r = least_best G (exits rows P) begins (some s) (sort_sorted step_key (steps_in rows L P)) (sort_sorted (λ a. a ∷ []) (entrances rows P)) (length G + length G) 1 g'
        (by_runs s g' (h.0, (e.0, e.1, leads_append g.start v.0 s w.0 e.0 v.1 w.1), on_middle s g.start v.0 w.0 v.1, (k.0, k.1, length_some (v.0 ++ w.0) n)))
        (omega (arith, length-append v.0 w.0, v.3, w.3)) in
        (r.0, r.1, foremost_of r.0 (runs_by s) (by_runs s) r.2)

    -- the piece that is written for s, or none
    pub piece_foremost : (s : ℕ) → ((e : ℕ) × Foremost (By s) (found e (piece rows L P s))) ⊎ (((f : Found) → ¬ By s f) × (piece rows L P s ≡ []))
    unfolding piece
    piece_foremost s = go (search s) refl
      where
        go : (o : Option Found) → search s ≡ o → ((e : ℕ) × Foremost (By s) (found e (walk_in o))) ⊎ (((f : Found) → ¬ By s f) × (walk_in o ≡ []))
        go none e = inr ((λ f h. none-ne-some _ (sym e ∙ (by_found s f h).1)), refl)
        go (some f) e = let r = by_found s f (runs_by s f (least_sound G (exits rows P) begins (some s) (length G + length G) 1 f e)) in
            inl (f.start, subst (λ (x : Found). Foremost (By s) (found x.start x.walk)) (agree (search s) r.1 e) r.2)

-- from the first state of a list to each of the others, by way of those between
abbrev pub legs : (ℕ → ℕ → Walk) → List ℕ → List Walk
legs f [] = []
legs f (a ∷ []) = []
legs f (a ∷ b ∷ l) = f a b ∷ map (λ (w : Walk). f a b ++ w) (legs f (b ∷ l))

-- from each state of P to each state of P
abbrev pub stretches : (ℕ → ℕ → Walk) → ℕ → List Walk
stretches f P = gather (λ a. legs f (round_trip P a)) (members P)
