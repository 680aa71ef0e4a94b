-- The parts of one array of masks (`letters_at`, `sets_at`, `lefts_at`, `rights_at`, `letters_lead`), and what is written into one of them
-- (`part_set`, `graph_stays`).
use Prim.Native.Nat.{ℕ, ◌+◌, ◌-◌, ◌≤◌, ◌<◌, min}
use mathlib.Core.Path.{◌≡◌, refl, ap, sym, subst, ◌∙◌}
use mathlib.Core.List.{List}
use lib.ListN.{length, take, drop, get_or, set, length-take, length-drop}
use lib.Seq.{get_or-take, length-take-le, take-set-lt, drop-set-add, ext_get_or}
use native.Mathlib.Omega.{arith}
use Rattle.lists.proofs.Places.{part_at, take_past}
use Rattle.masks.specs.Graph.{Targets, Turned}
use Rattle.masks.specs.Mask.{member, ◌∈◌}
use Rattle.masks.proofs.Member.{member_lt}
use Rattle.masks.proofs.Turning.{turned_back}
use Rattle.search.specs.Graph.{Graph, part, graph_of, TurnedGraph}
use Rattle.search.specs.Hops.{Lettered, Onward}

pub at_part : (l : List ℕ) (base i : ℕ) → i < 64 → get_or (part l base) i 0 ≡ get_or l (base + i) 0
unfolding part
at_part l base i h = part_at 64 base l i 0 h

-- behind the 64 states and sets there is none
pub past_part : (l : List ℕ) (base i : ℕ) → 64 ≤ i → get_or (part l base) i 0 ≡ 0
unfolding part
past_part l base i h = take_past 64 (drop base l) i 0 h

module _ (l : List ℕ) (i : ℕ) (h : i < 64) where
  pub letters_at : get_or (graph_of l).letters i 0 ≡ get_or l i 0
  unfolding graph_of part
  letters_at = get_or-take 64 l i 0 h

  pub sets_at : get_or (graph_of l).sets i 0 ≡ get_or l (64 + i) 0
  unfolding graph_of
  sets_at = at_part l 64 i h

  pub lefts_at : get_or (graph_of l).lefts i 0 ≡ get_or l (128 + i) 0
  unfolding graph_of
  lefts_at = at_part l 128 i h

  pub rights_at : get_or (graph_of l).rights i 0 ≡ get_or l (192 + i) 0
  unfolding graph_of
  rights_at = at_part l 192 i h

-- the targets by letters, as the whole array gives them
pub letters_lead : (l : List ℕ) (m r : ℕ) → Targets l m r → Onward (Lettered (graph_of l)) m r
letters_lead l m r is t = (
  (λ h. let x = is.sound t h in (x.source, x.is, subst (λ (n : ℕ). t ∈ n) (sym (here x.source x.is)) x.edge)),
  λ p. is.complete t (record { source = p.0; is = p.1; edge = subst (λ (n : ℕ). t ∈ n) (here p.0 p.1) p.2 }),
)
  where
    here : (s : ℕ) → s ∈ m → get_or (graph_of l).letters s 0 ≡ get_or l s 0
    here s h = letters_at l s (member_lt s m h)

-- one part, as it reads in the masks from there on
from_base : (l : List ℕ) (base : ℕ) → base + 64 ≤ length l → (s : ℕ) → s < 64 → get_or (part l base) s 0 ≡ get_or (take (length l - base) (drop base l)) s 0
from_base l base h s k = at_part l base s k ∙ sym (part_at (length l - base) base l s 0 (omega arith))

-- the targets in one part, as the masks from there on give them
pub targets_part : (l : List ℕ) (base m r : ℕ) → base + 64 ≤ length l → Targets (take (length l - base) (drop base l)) m r → Targets (part l base) m r
targets_part l base m r h is = record {
  sound = λ t k. let x = is.sound t k in record { source = x.source; is = x.is; edge = subst (λ (n : ℕ). t ∈ n) (sym (here x.source x.is)) x.edge };
  complete = λ t x. is.complete t (record { source = x.source; is = x.is; edge = subst (λ (n : ℕ). t ∈ n) (here x.source x.is) x.edge });
}
  where
    here : (s : ℕ) → s ∈ m → get_or (part l base) s 0 ≡ get_or (take (length l - base) (drop base l)) s 0
    here s k = from_base l base h s (member_lt s m k)

-- one part turned round, as the masks from there on are
pub turned_part : (l : List ℕ) (base : ℕ) (r : List ℕ) → base + 64 ≤ length l → Turned (take (length l - base) (drop base l)) r → Turned (part l base) r
turned_part l base r h is i j hi hj = is i j hi hj ∙ ap (member j) (sym (from_base l base h i hi))

-- a graph turned round twice
pub turn_back : {g back : Graph} → TurnedGraph g back → TurnedGraph back g
turn_back {g} {back} is = record {
  turned = turned_back g.letters back.letters is.turned;
  sets_are = λ i. sym (is.sets_are i);
  lefts_are = λ i. sym (is.rights_are i);
  rights_are = λ i. sym (is.lefts_are i);
}

-- ---- what is written into one part

pub part_length : (l : List ℕ) (base : ℕ) → length l ≡ 448 → base ≤ 384 → length (part l base) ≡ 64
unfolding part
part_length l base e h = length-take-le 64 (drop base l) (omega (arith, length-drop base l))

pub part_set : (l : List ℕ) (base k v : ℕ) → k < 64 → part (set l (base + k) v) base ≡ set (part l base) k v
unfolding part
part_set l base k v h = ap (take 64) (drop-set-add base l k v) ∙ take-set-lt 64 (drop base l) k v h

-- a part whose masks stay
pub part_stays : (old new : List ℕ) (base : ℕ) → length new ≡ length old → ((j : ℕ) → j < 64 → get_or new (base + j) 0 ≡ get_or old (base + j) 0) → part new base ≡ part old base
unfolding part
part_stays old new base e f = ext_get_or 0 (part new base) (part old base) sized (λ i h. here i (omega (arith, short)))
  where
    sized : length (part new base) ≡ length (part old base)
    sized = length-take 64 (drop base new) ∙ ap (min 64) (length-drop base new ∙ ap (λ (n : ℕ). n - base) e ∙ sym (length-drop base old)) ∙ sym (length-take 64 (drop base old))

    short : length (part new base) ≤ 64
    short = omega (arith, length-take 64 (drop base new))

    here : (i : ℕ) → i < 64 → get_or (part new base) i 0 ≡ get_or (part old base) i 0
    here i h = at_part new base i h ∙ f i h ∙ sym (at_part old base i h)

-- the four parts stay where the masks below 256 do
pub graph_stays : (old new : List ℕ) → length new ≡ length old → ((j : ℕ) → j < 256 → get_or new j 0 ≡ get_or old j 0) → graph_of new ≡ graph_of old
unfolding graph_of
graph_stays old new e f =
    rw (
      part_stays old new 0 e (λ j h. f (0 + j) (omega arith)),
      part_stays old new 64 e (λ j h. f (64 + j) (omega arith)),
      part_stays old new 128 e (λ j h. f (128 + j) (omega arith)),
      part_stays old new 192 e (λ j h. f (192 + j) (omega arith)),
    ) refl
