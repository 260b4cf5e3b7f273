-- Step calls of a machine that follows a plan: after each, the image, the answer and the record.
use mathlib.Core.Path.{◌≡◌, refl, ap, ◌∙◌}
use mathlib.Core.List.{List, [], ◌∷◌}
use Prim.Native.Nat.{ℕ, zero, suc, ◌≤◌, ◌<◌}
use native.Mathlib.Omega.{arith}
use lib.ListN.{length, take}
use Rattle.flash.specs.Flash.{size_in, Step, apply, apply_all, size_of}
use Rattle.flash.proofs.Image.{length-apply}
use Rattle.wire.specs.declared.Answer.TheVariants.{More}
use Rattle.board.specs.declared.Record.{Record}
use Rattle.board.specs.Record.{Out, out, answer_of}
use Rattle.board.specs.Exec.{Machine}
use Rattle.board.specs.Plan.{Follows}
use Rattle.board.specs.Claim.{steps_on}

module _ (N : ℕ) (m : Machine) where
  -- all steps of a plan, made
  pub follows_steps : (plan : List Step) (x : Step) (xs : List Step) → plan ≡ x ∷ xs → (s : ℕ) (o : Out) (last : Record) → size_of N o.image ≡ s
      → Follows N m o.image o.board plan last → steps_on m (length plan) o ≡ out (answer_of last) (apply_all s plan o.image) last []
  unfolding apply_all
  follows_steps [] x xs e s o last z f = let w : ◌≡◌ {A = ℕ} 0 1 = cc in absurd (omega arith)
  follows_steps (y ∷ []) x xs e s o last z (a, (n, g, f)) =
      g ∙ ap (λ (q : Record). out (answer_of q) (apply (size_of N o.image) y o.image) q []) f
      ∙ ap (λ (w : ℕ). out (answer_of last) (apply w y o.image) last []) z
  follows_steps (y ∷ y' ∷ ys) x xs e s o last z (a, (n, g, f)) =
      let i : List ℕ = apply (size_of N o.image) y o.image in
      let w : size_of N i ≡ s = ap (size_in N) (length-apply (size_of N o.image) y o.image) ∙ z in
      ap (λ (q : Out). steps_on m (length (y' ∷ ys)) q) g
      ∙ follows_steps (y' ∷ ys) y' ys refl s (out (answer_of n) i n []) last w f
      ∙ ap (λ (k : ℕ). out (answer_of last) (apply_all s (y' ∷ ys) (apply k y o.image)) last []) z

  -- some steps of a plan, made
  pub follows_part : (s j : ℕ) (plan : List Step) (o : Out) (last : Record) → size_of N o.image ≡ s → j ≤ length plan
      → Follows N m o.image o.board plan last → (steps_on m j o).image ≡ apply_all s (take j plan) o.image
  unfolding apply_all
  follows_part s zero plan o last z h f = refl
  follows_part s (suc j) [] o last z h f = absurd (omega arith)
  follows_part s (suc j) (x ∷ xs) o last z h (a, (n, g, f)) =
      let i : List ℕ = apply (size_of N o.image) x o.image in
      let w : size_of N i ≡ s = ap (size_in N) (length-apply (size_of N o.image) x o.image) ∙ z in
      ap (λ (q : Out). (steps_on m j q).image) g ∙ follows_part s j xs (out (answer_of n) i n []) last w (omega arith) f
      ∙ ap (λ (k : ℕ). apply_all s (take j xs) (apply k x o.image)) z

  -- more until the last
  pub follows_more : (j : ℕ) (plan : List Step) (o : Out) (last : Record) → o.answer ≡ answer_of o.board → j < length plan
      → Follows N m o.image o.board plan last → (steps_on m j o).answer ≡ More
  follows_more j [] o last e h f = absurd (omega arith)
  follows_more zero (x ∷ xs) o last e h f = e ∙ f.0
  follows_more (suc j) (x ∷ xs) o last e h (a, (n, g, f)) =
      ap (λ (q : Out). (steps_on m j q).answer) g
      ∙ follows_more j xs (out (answer_of n) (apply (size_of N o.image) x o.image) n []) last refl (omega arith) f
