-- The best walk is one (`best_unique`), and visits no state twice (`best_short`).
use Prim.Native.Nat.{ℕ, zero, suc, ◌≤◌, ◌<◌, ◌^◌}
use mathlib.Core.Path.{◌≡◌, refl, sym}
use mathlib.Core.Logic.{⊎_elim}
use mathlib.Core.List.Memᴰ
use mathlib.Core.List.{List, [], ◌∷◌}
use lib.ListN.{length, length-map}
use native.Mathlib.Omega.{arith}
use Rattle.lists.specs.Tests.{◌among◌, ◌part_of◌, Once, gather, range}
use Rattle.lists.proofs.Deciding.{map_out, range_in}
use Rattle.lists.proofs.Counting.{once_length, range_length}
use Rattle.lists.proofs.Sorting.{≺_connex}
use Rattle.masks.proofs.Member.{member_lt}
use Rattle.rows.specs.declared.Row.{Row}
use Rattle.rows.specs.Rows.{AllFit}
use Rattle.orderings.specs.Steps.{Claim, Label, letter, ω, back, mix, Step, HasRows, Walk, Leads}
use Rattle.orderings.specs.Systems.{Allowed}
use Rattle.orderings.specs.Timelines.{timelines}
use Rattle.orderings.specs.Decide.{step, steps, targets}
use Rattle.orderings.proofs.Deciding.{steps_allowed}
use Rattle.machine.specs.Order.{kind, value, step_key, Found, walk_key, Candidate, Foremost, Best}

-- the label of a kind with a letter or a set
abbrev named : ℕ → ℕ → Label
named zero a = letter a
named (suc zero) P = ω P
named (suc (suc zero)) P = back P
named (suc (suc (suc k))) P = mix P

named_back : (x : Label) → named (kind x) (value x) ≡ x
named_back (letter a) = refl
named_back (ω P) = refl
named_back (back P) = refl
named_back (mix P) = refl

-- a label is told by its kind and its letter or set
pub label_same : (x y : Label) → kind x ≡ kind y → value x ≡ value y → x ≡ y
label_same x y k v = cc (named_back x, named_back y)

-- walks from one state with one key are one
same_walk : (a b c : ℕ) (v w : Walk) → Leads a v b → Leads a w c → gather step_key v ≡ gather step_key w → v ≡ w
same_walk a b c [] [] h k e = refl
same_walk a b c [] (s ∷ w) h k e = let z : ◌≡◌ {A = ℕ} 0 1 = cc in absurd (omega arith)
same_walk a b c (t ∷ v) [] h k e = let z : ◌≡◌ {A = ℕ} 0 1 = cc in absurd (omega arith)
same_walk a b c (t ∷ v) (s ∷ w) h k e =
    let to : t.to ≡ s.to = cc in
    let label : t.label ≡ s.label = label_same t.label s.label (cc) (cc) in
    let rest : v ≡ w = same_walk t.to b c v w h.1 (rw to k.1) (cc) in
    let parts : step t.from t.label t.to ≡ step s.from s.label s.to = cc (h.0, k.0) in
    let first : t ≡ s = parts in
    cc

-- of walks, the foremost is one
pub foremost_unique : (C : Found → Type 0) → ((f : Found) → C f → (b : ℕ) × Leads f.start f.walk b) → (f g : Found) → Foremost C f → Foremost C g → f ≡ g
foremost_unique C leads f g b d =
    let e : length g.walk ≡ length f.walk = omega (arith, b.short g d.is, d.short f b.is) in
    let keys : walk_key f ≡ walk_key g = ≺_connex (walk_key f) (walk_key g) (d.first f b.is (sym e)) (b.first g d.is e) in
    let start : f.start ≡ g.start = cc in
    let x = leads f b.is in
    let y = leads g d.is in
    let walk : f.walk ≡ g.walk = same_walk f.start x.0 y.0 f.walk g.walk x.1 (rw start y.1) (cc) in
    let parts : ◌≡◌ {A = Found} (record { start = f.start; walk = f.walk }) (record { start = g.start; walk = g.walk }) = cc in
    parts

-- of the same walks, it is the same
pub foremost_of : {C C' : Found → Type 0} (f : Found) → ((g : Found) → C g → C' g) → ((g : Found) → C' g → C g) → Foremost C f → Foremost C' f
foremost_of f to of b = record { is = to f b.is; short = λ g c. b.short g (of g c); first = λ g c. b.first g (of g c) }

pub best_unique : (rows : List Row) (l : List Claim) (f g : Found) → Best rows l f → Best rows l g → f ≡ g
best_unique rows l f g b d = foremost_unique (Candidate rows l) (λ h c. (c.1.0, c.1.2)) f g b d

-- from where a walk meets a state again, the rest of it is shorter
later : (a c b : ℕ) (w : Walk) → Leads c w b → a among targets w → (v : Walk) × Leads a v b × v part_of w × (length v < length w)
later a c b [] h m = absurd (Memᴰ.not-nil m)
later a c b (t ∷ w) h m = ⊎_elim
    (λ e. (w, rw e h.1, (λ s i. Memᴰ.tail i), omega arith))
    (λ i. let r = later a t.to b w h.1 i in (r.0, r.1, (λ s j. Memᴰ.tail (r.2 s j)), omega (arith, r.3))) (Memᴰ.cases_cons m)

-- a walk as short as any of the given steps visits no state twice
once_walk : (G : List Step) (a b : ℕ) (w : Walk) → Leads a w b → w part_of G → ((v : Walk) → Leads a v b → v part_of G → length w ≤ length v) → Once (a ∷ targets w)
once_walk G a b [] h p short = (Memᴰ.not-nil, tt)
once_walk G a b (t ∷ w) h p short = (
  (λ m. let r = later a a b (t ∷ w) h m in omega (arith, r.3, short r.0 r.1 (λ s i. p s (r.2 s i)))),
  once_walk G t.to b w h.1 (λ s i. p s (Memᴰ.tail i))
      (λ v k q. omega (arith, short (t ∷ v) (h.0, k) (λ s m. ⊎_elim (λ e. p s (Memᴰ.head e)) (q s) (Memᴰ.cases_cons m)))),
)

-- a letter is a byte, and a set eight bytes
abbrev pub ValueFits : Label → Type 0
ValueFits (letter a) = a < 256
ValueFits (ω P) = P < 256 ^ 8
ValueFits (back P) = P < 256 ^ 8
ValueFits (mix P) = P < 256 ^ 8

step_fits : (rows : List Row) → AllFit rows → (p : ℕ) (x : Label) (q : ℕ) → HasRows rows p x q → ((p < 64) × (q < 64)) × ValueFits x
step_fits rows fit p (letter a) q h = let f = fit _ h in ((f.0, f.2), f.1)
step_fits rows fit p (ω P) q h = let f = fit _ h.0 in ((member_lt p P h.1, f.2), f.1)
step_fits rows fit p (back P) q h = let f = fit _ h.0 in ((f.2, member_lt q P h.1), f.1)
step_fits rows fit p (mix P) q h = let f = fit _ h.0 in ((f.2, (fit _ h.1).2), f.1)

walk_fits : (rows : List Row) (l : List Claim) (w : Walk) → AllFit rows → Allowed (timelines rows) (λ c. c among l) w → (t : Step) → t among w → ((t.from < 64) × (t.to < 64)) × ValueFits t.label
walk_fits rows l [] fit h t m = absurd (Memᴰ.not-nil m)
walk_fits rows l (s ∷ w) fit h t m = ⊎_elim (λ e. rw e (step_fits rows fit s.from s.label s.to h.0.0)) (walk_fits rows l w fit h.2 t) (Memᴰ.cases_cons m)

-- the states of a walk, and its letters and sets
pub walk_states : (rows : List Row) (l : List Claim) (w : Walk) → AllFit rows → Allowed (timelines rows) (λ c. c among l) w → (t : Step) → t among w → (t.from < 64) × (t.to < 64)
walk_states rows l w fit h t m = (walk_fits rows l w fit h t m).0

pub walk_values : (rows : List Row) (l : List Claim) (w : Walk) → AllFit rows → Allowed (timelines rows) (λ c. c among l) w → (t : Step) → t among w → ValueFits t.label
walk_values rows l w fit h t m = (walk_fits rows l w fit h t m).1

-- there are 64 states, and each step of a shortest walk leads to a new one
pub best_short : (rows : List Row) (l : List Claim) (f : Found) → AllFit rows → Best rows l f → length f.walk ≤ 63
best_short rows l f fit d = let c = d.is in
    let once : Once (f.start ∷ targets f.walk) = once_walk (steps rows l) f.start c.1.0 f.walk c.1.2 ((steps_allowed rows l f.walk).1 c.2)
    (λ v k q. d.short (record { start = f.start; walk = v }) (c.0, (c.1.0, c.1.1, k), (steps_allowed rows l v).0 q)) in
    let below : (s : ℕ) → s among (f.start ∷ targets f.walk) → s < 64 = λ s m. ⊎_elim (λ e. rw e (fit _ c.0.0))
    (λ i. let r = map_out _ s f.walk i in rw r.2 (walk_states rows l f.walk fit c.2 r.0 r.1).1) (Memᴰ.cases_cons m) in
    omega (arith, once_length (f.start ∷ targets f.walk) (range 0 64) once (λ s m. range_in 0 64 s (omega arith) (below s m)), range_length 0 64, length-map f.walk (λ (t : Step). t.to))
