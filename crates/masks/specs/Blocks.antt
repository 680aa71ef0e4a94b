-- A square of 64 masks in which blocks of b places are exchanged. A place t lies in a lower block where t / b is even, in an upper one where it is odd.
use Rattle.std.specs.Prelude.{ℕ, ◌+◌, ◌-◌, ◌*◌, ◌/◌, ◌%◌, ◌≤◌, ◌<◌, ◌≡◌, ◌⊎◌, List, eqb, get_or, length}
use Rattle.masks.specs.Mask.{member}

-- how many places a block has
pub data Width : ℕ → Type 0 where
  one : Width 1
  two : Width 2
  four : Width 4
  eight : Width 8
  sixteen : Width 16
  thirty_two : Width 32

-- a mask has the places of lower blocks, and no others
abbrev pub LowerPlaces : ℕ → ℕ → Type 0
LowerPlaces b lower = (t : ℕ) → t < 64 → member t lower ≡ eqb (t / b % 2) 0

-- r has the lower blocks of low, and those of high as its upper ones
pub record LowMask (b low high r : ℕ) : Type 0 where
  pub lower : (t : ℕ) → t < 64 → t / b % 2 ≡ 0 → member t r ≡ member t low
  pub upper : (t : ℕ) → t < 64 → t / b % 2 ≡ 1 → member t r ≡ member (t - b) high

-- r has the upper blocks of high, and those of low as its lower ones
pub record HighMask (b low high r : ℕ) : Type 0 where
  pub lower : (t : ℕ) → t < 64 → t / b % 2 ≡ 0 → member t r ≡ member (t + b) low
  pub upper : (t : ℕ) → t < 64 → t / b % 2 ≡ 1 → member t r ≡ member t high

-- the place n, moved into a lower or an upper block as k lies in one
unfoldable pub moved : ℕ → ℕ → ℕ → ℕ
moved b n k = n - n / b % 2 * b + k / b % 2 * b

-- r is the mask i of a square after the exchange: what it has at j stood where i and j have exchanged their blocks
abbrev pub Exchanged : ℕ → List ℕ → ℕ → ℕ → Type 0
Exchanged b old i r = (j : ℕ) → j < 64 → member j r ≡ member (moved b j i) (get_or old (moved b i j) 0)

-- the exchange among the 2 b masks from g on; the other masks stay
pub record RowsExchanged (b g : ℕ) (old new : List ℕ) : Type 0 where
  pub length_is : length new ≡ length old
  pub rows : length old ≡ 64 → (i : ℕ) → g ≤ i → i < g + 2 * b → Exchanged b old i (get_or new i 0)
  pub others : (i : ℕ) → (i < g) ⊎ (g + 2 * b ≤ i) → get_or new i 0 ≡ get_or old i 0

-- the exchange among all masks
pub record BlocksExchanged (b : ℕ) (old new : List ℕ) : Type 0 where
  pub length_is : length new ≡ length old
  pub rows : length old ≡ 64 → (i : ℕ) → i < 64 → Exchanged b old i (get_or new i 0)

-- the first 64 masks of a list
pub record FirstMasks (succ r : List ℕ) : Type 0 where
  pub length_is : length r ≡ 64
  pub masks_are : (i : ℕ) → i < 64 → get_or r i 0 ≡ get_or succ i 0
