-- What steps do to each byte of an image: which bytes change, and to what. In document 01's words: "program one byte (new value = old AND given),
-- erase one half (all bytes 0xFF)".
use Rattle.std.specs.Prelude.{List, [], ◌∷◌, ◌++◌, ◌⊎◌, ◌≡◌, ℕ, ◌+◌, ◌*◌, ◌≤◌, ◌<◌, length, get_or}
use Rattle.std.specs.Int.Bits.{bit_and}
use Rattle.flash.specs.Flash.{Step, program, erase, block, with_block, apply, apply_all}

-- place i lies outside block k of s bytes
abbrev pub Outside : ℕ → ℕ → ℕ → Type 0
Outside s k i = (i < k * s) ⊎ (k * s + s ≤ i)

-- a step leaves the byte at place i alone
abbrev pub Misses : ℕ → ℕ → Step → Type 0
Misses s i (program k o v) = i ≡ k * s + o → ⊥
Misses s i (erase k) = Outside s k i

abbrev pub MissesAll : ℕ → ℕ → List Step → Type 0
MissesAll s i [] = Unit {0}
MissesAll s i (x ∷ xs) = Misses s i x × MissesAll s i xs

pub record AppliedExact : Type 0 where
  -- "new value = old AND given"; no other byte changes
  pub programmed : (s k o v : ℕ) (img : List ℕ) → get_or (apply s (program k o v) img) (k * s + o) 0 ≡ bit_and (get_or img (k * s + o) 0) v
  pub program_others : (s k o v i : ℕ) (img : List ℕ) → (i ≡ k * s + o → ⊥) → get_or (apply s (program k o v) img) i 0 ≡ get_or img i 0
  -- "all bytes 0xFF", as many as are there; no byte outside the block changes
  pub erased : (s k o : ℕ) (img : List ℕ) → o < s → k * s + o < length img → get_or (apply s (erase k) img) (k * s + o) 0 ≡ 0xFF
  pub erase_others : (s k i : ℕ) (img : List ℕ) → Outside s k i → get_or (apply s (erase k) img) i 0 ≡ get_or img i 0
  -- a block given other bytes, as many as it has: it has those; no byte outside it changes
  pub replaced : (s k o : ℕ) (new img : List ℕ) → length new ≡ length (block s k img) → o < length new
      → get_or (with_block s k new img) (k * s + o) 0 ≡ get_or new o 0
  pub replaced_others : (s k i : ℕ) (new img : List ℕ) → length new ≡ length (block s k img) → Outside s k i
      → get_or (with_block s k new img) i 0 ≡ get_or img i 0
  -- steps in order: each is done to what those before it left
  pub no_step : (s : ℕ) (img : List ℕ) → apply_all s [] img ≡ img
  pub last_step : (s : ℕ) (xs : List Step) (x : Step) (img : List ℕ) → apply_all s (xs ++ (x ∷ [])) img ≡ apply s x (apply_all s xs img)
  -- so a byte that none of them reaches stays
  pub others : (s i : ℕ) (xs : List Step) (img : List ℕ) → MissesAll s i xs → get_or (apply_all s xs img) i 0 ≡ get_or img i 0
  -- no step changes how many bytes there are
  pub long : (s : ℕ) (xs : List Step) (img : List ℕ) → length (apply_all s xs img) ≡ length img
