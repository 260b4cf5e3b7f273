-- The blocks of an allowed image, looked at from the last down to k; and what the newest one holds.
use mathlib.Core.Path.{◌≡◌, refl, sym, subst}
use mathlib.Core.List.{List, [], ◌∷◌}
use mathlib.Core.Bool.{true, cond}
use Prim.Native.Nat.{ℕ, suc, ◌+◌, ◌-◌, ◌≤◌, ◌<◌}
use native.Mathlib.Omega.{arith}
use native.Mathlib.Nat.{sub-zero}
use lib.ListN.{length}
use Rattle.std.specs.Prelude.{Option, IfSome}
use Rattle.flash.specs.Bytes.{Bytes}
use Rattle.flash.specs.Flash.{numbers_from, block, size_of}
use Rattle.flash.proofs.Image.{bytes-block}
use Rattle.journal.specs.Block.{BlockState, blank, in_progress, valid, foreign, block_state, block_max}
use Rattle.journal.proofs.States.{Contents, valid_inv}
use Rattle.survey.specs.declared.Survey.{Survey}
use Rattle.survey.specs.Survey.{survey_of, places_in, state_of}
use Rattle.survey.proofs.Surveying.{half_fits}
use Rattle.board.specs.Record.{allowed}
use Rattle.board.specs.Mount.{all_found, Store, stores, newest, block_in}
use Rattle.board.proofs.Images.{sized_of}
use Rattle.board.proofs.Found.{found_from, Holds, Among, newest-among, among_holds}
use Rattle.looks.specs.declared.looks.Newest.{Newest}
use Rattle.looks.specs.declared.looks.Seen.{Seen}
use Rattle.looks.specs.Seen.{newest_in, Sees, none_seen_of, takes_over, seeing}
use Rattle.looks.proofs.Images.{block_length, block_fits}
use Rattle.looks.proofs.Transfers.{pends_is, closed_fits}
use Rattle.looks.proofs.Looking.{Tells, Seeing, none_seen, seen_next}

abbrev pub state_at : ℕ → List ℕ → ℕ → BlockState
state_at N img k = block_state (block (size_of N img) k img)

told : (N : ℕ) (img : List ℕ) (k : ℕ) → allowed N (length img) ≡ true → Bytes img → k < N → Tells (state_at N img k)
told N img k a y h = go (state_at N img k) refl
  where
    go : (s : BlockState) → state_at N img k ≡ s → Tells s
    go blank e = tt
    go in_progress e = tt
    go (foreign f) e = tt
    go (valid w) e =
        let b : List ℕ = block (size_of N img) k img in
        let x : Contents b w = valid_inv b w (bytes-block (size_of N img) k img y) (block_fits N img k a h).0 e in
        record { pends = pends_is x; some = x.layout.time_lo }

-- the state that a survey of block k tells of
pub state_is : (N : ℕ) (img : List ℕ) (k s : ℕ) (b : List ℕ) → allowed N (length img) ≡ true → k < N → s ≡ size_of N img → b ≡ block s k img
    → state_of b ≡ state_at N img k
state_is N img k s b a h e f = rw (f, e) (half_fits (block (size_of N img) k img) (block_fits N img k a h))

-- p and q are the places before and after
abbrev pub Looked : ℕ → List ℕ → List ℕ → ℕ → Seen → List ℕ → Type 0
Looked N img p k z q = Seeing k (N - k) (found_from (state_at N img) k (N - k)) p z q

module _ (N : ℕ) (img p : List ℕ) where
  pub looked_none : Looked N img p N none_seen_of p
  unfolding numbers_from
  looked_none =
      let e : 0 ≡ N - N = omega arith in subst (λ (n : ℕ). Seeing N n (found_from (state_at N img) N n) p none_seen_of p) e (none_seen N p)

  pub looked_all : (k : ℕ) {z : Seen} {q : List ℕ} → k ≤ 0 → Looked N img p k z q → Sees N img p z q
  looked_all k {z} {q} h x =
      let e : k ≡ 0 = omega arith in
      let y : Seeing 0 N (found_from (state_at N img) 0 N) p z q =
      subst (λ (n : ℕ). Seeing 0 n (found_from (state_at N img) 0 n) p z q) (sub-zero N) (subst (λ (j : ℕ). Looked N img p j z q) e x) in
      record { why = y.why; newest = y.newest; tie = y.tie; others = y.others; places = y.places }

  -- the block below k, by its survey and its places
  pub looked_next : (k : ℕ) {z : Seen} {q : List ℕ} (s : Survey) (t : List ℕ) → 0 < k → k ≤ N → allowed N (length img) ≡ true → Bytes img
      → s ≡ survey_of (state_at N img (k - 1)) → t ≡ places_in (state_at N img (k - 1)) → Looked N img p k z q
      → Looked N img p (k - 1) (seeing (k - 1) s z) (cond (takes_over z.newest s) t q)
  unfolding numbers_from
  looked_next k {z} {q} s t l h a y e f x =
      let j : ℕ = k - 1 in
      let d : k ≡ suc j = omega arith in
      let n : suc (N - suc j) ≡ N - j = omega arith in
      rw (e, f) (subst
      (λ (m : ℕ). Seeing j m (found_from (state_at N img) j m) p (seeing j (survey_of (state_at N img j)) z)
      (cond (takes_over z.newest (survey_of (state_at N img j))) (places_in (state_at N img j)) q)) n
      (seen_next (omega (arith, (sized_of N img a).most)) (subst (λ (i : ℕ). Looked N img p i z q) d x) (state_at N img j) (told N img j a y (omega arith))))

-- ---- the newest one

-- a block of an image that is valid
pub record Held (N : ℕ) (img : List ℕ) (x : Store) : Type 0 where
  pub holds : Contents (block_in N img x) x.journal
  pub long : length (block_in N img x) ≡ size_of N img

abbrev pub NewestHeld : ℕ → List ℕ → List Store → Type 0
NewestHeld N img [] = Unit {0}
NewestHeld N img (y ∷ ys) = Held N img (newest y ys)

module _ (N : ℕ) (img : List ℕ) (a : allowed N (length img) ≡ true) (b : Bytes img) where
  pub newest_held : NewestHeld N img (stores (all_found N img))
  newest_held = go (stores (all_found N img)) refl
    where
      go : (xs : List Store) → stores (all_found N img) ≡ xs → NewestHeld N img xs
      go [] e = tt
      go (y ∷ ys) e =
          let x : Store = newest y ys in
          let h : Holds (state_at N img) 0 N x = among_holds (state_at N img) 0 N x (subst (Among x) (sym e) (newest-among y ys)) in
          record {
            holds =
                valid_inv (block_in N img x) x.journal (bytes-block (size_of N img) x.number img b)
                (block_fits N img x.number a (omega (arith, h.below))).0 h.is-valid;
            long = block_length N img x.number a (omega (arith, h.below));
          }

  -- it has room for its torn frame
  pub newest_fits : {p : List ℕ} {z : Seen} {q : List ℕ} → Sees N img p z q → IfSome z.newest (λ w. w.end + w.torn ≤ block_max)
  newest_fits {p} {z} x =
      subst (λ (o : Option Newest). IfSome o (λ w. w.end + w.torn ≤ block_max)) (sym x.newest) (go (stores (all_found N img)) newest_held)
    where
      go : (xs : List Store) → NewestHeld N img xs → IfSome (newest_in xs) (λ w. w.end + w.torn ≤ block_max)
      go [] h = tt
      go (y ∷ ys) h = omega (arith, closed_fits h.holds, h.long, (sized_of N img a).high)
