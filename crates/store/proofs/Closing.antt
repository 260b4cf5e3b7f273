-- The bytes that close a torn frame, as they grow in the record's array.
use mathlib.Core.Path.{◌≡◌, refl, sym, ap, ap₂, ◌∙◌}
use mathlib.Core.List.{List, [], ◌∷◌, ◌++◌, append-nil, append_assoc}
use Prim.Native.Nat.{ℕ, suc, ◌+◌, ◌≤◌, ◌<◌}
use native.Mathlib.Omega.{arith}
use lib.Dec.{eqb}
use lib.ListN.{length, get_or, set, length-append}
use Rattle.flash.specs.Flash.{Write}
use Rattle.flash.proofs.Cases.{on_test}
use Rattle.journal.specs.Block.{changing}
use Rattle.board.specs.Mount.{close_array}
use Rattle.store.specs.Mends.{Closes, closes_of, noted}

one_more : (ws : List Write) (w : Write) → length ws < 4 → set (close_array ws) (length ws) w.at ≡ close_array (ws ++ (w ∷ []))
one_more [] w h = refl
one_more (a ∷ []) w h = refl
one_more (a ∷ b ∷ []) w h = refl
one_more (a ∷ b ∷ c ∷ []) w h = refl
one_more (a ∷ b ∷ c ∷ d ∷ ws) w h = absurd (omega arith)

abbrev closes : List ℕ → ℕ → Closes
closes a n = record { items = a; count = n }

more : (ws : List Write) (w : Write) → length ws < 4 → closes (set (close_array ws) (length ws) w.at) (suc (length ws)) ≡ closes_of (ws ++ (w ∷ []))
more ws w h = ap₂ closes (one_more ws w h) (omega (arith, length-append ws (w ∷ [])))

-- one after the other, as the code notes them
abbrev pub all_noted_of : List ℕ → Closes → List Write → Closes
all_noted_of b l [] = l
all_noted_of b l (w ∷ ws) = all_noted_of b (noted b l w) ws

pub all_noted : (b : List ℕ) (ws vs : List Write) → length ws + length vs ≤ 4 → all_noted_of b (closes_of ws) vs ≡ closes_of (ws ++ changing b vs)
unfolding changing
all_noted b ws [] h = ap closes_of (sym (append-nil ws))
all_noted b ws (v ∷ vs) h =
    on_test (eqb (get_or b v.at 0) v.byte)
    (λ t. rw t (all_noted b ws vs (omega arith)))
    (λ t. rw t (ap (λ (l : Closes). all_noted_of b l vs) (more ws v (omega arith))
    ∙ all_noted b (ws ++ (v ∷ [])) vs (omega (arith, length-append ws (v ∷ [])))
    ∙ ap closes_of (append_assoc ws (v ∷ []) (changing b vs))))
