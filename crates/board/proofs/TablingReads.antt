-- A read's lines of the table, document 02, K8: its 11 and its 8.
use mathlib.Core.Path.{◌≡◌, refl, sym, ap, subst, ◌∙◌}
use mathlib.Core.List.{List, [], ◌∷◌}
use mathlib.Core.Logic.{◌⊎◌, inl, inr}
use mathlib.Core.Option.{Option, none, some}
use mathlib.Core.Bool.{Bool, true, false, ◌&&◌, not}
use Prim.Native.Nat.{ℕ, suc, ◌+◌, ◌≤◌}
use native.Mathlib.Omega.{arith}
use lib.Dec.{eqb}
use lib.ListN.{length, drop}
use borrow.Author.Tests.{eqb-true, eqb-false, eq-eqb, ne_eqb}
use Rattle.flash.specs.Flash.{block}
use Rattle.flash.proofs.Cases.{on_test, and_left, and_right, clash}
use Rattle.frame.specs.declared.ObjectId.{ObjectId}
use Rattle.frame.specs.Sentences.{Whole}
use Rattle.frame.proofs.Sentences.{reader_exact}
use Rattle.journal.specs.Index.{Value}
use Rattle.journal.specs.Laws.{Holder, holding, front}
use Rattle.journal.proofs.Sources.{value_there, FrameThere, value_inv}
use Rattle.wire.specs.declared.Refusal.TheVariants as refusal
use Rattle.wire.specs.declared.Request.{Request}
use Rattle.wire.specs.declared.Request.TheVariants.{Put, Delete, Read, Log, Convert}
use Rattle.wire.specs.Sentences.{Means}
use Rattle.board.proofs.Freshness.{fresh-exact}
use Rattle.journal.specs.Block.{Journal}
use Rattle.journal.specs.Replay.{lookup}
use Rattle.flash.specs.Bytes.{Bytes}
use Rattle.board.specs.Mount.{replay_of}
use Rattle.board.specs.Record.{reads_in, allowed}
use Rattle.board.specs.Step.{same_shape}
use Rattle.board.specs.Queue.{Asking, size_for, value_for, held_for}
use Rattle.board.specs.Table.{is_none, place_for, PlaceHolds, PlaceLost, NoObject, ShortReply, StillPending, HostFull, put_over, delete_over, NoRoom, for_put}
use Rattle.board.specs.Table.{for_delete, for_convert, Worn, Moves, task_for, line, FreshFor, FreshExact}
use Rattle.board.proofs.Pipeline.{same-shape}
use Rattle.board.proofs.Checks.{place_lost, read_checks}
use Rattle.board.proofs.Lines.{Tests, Rows, end, row, false-true}
use Rattle.board.proofs.Reading.{one-request, place_some, place_none}

-- what stands at a place, by the definition and in the paper's words
pub place-holds : (a : Asking) (i : ObjectId) (x : Value) → value_for a i (place_for a i) ≡ some x
    → (k : Holder) × (v : List ℕ) × PlaceHolds a i k v × (x ≡ record { at = place_for a i + front k; bytes = v })
place-holds a i x e =
    let b : List ℕ = block (size_for a) a.board.rest.block a.image in
    let y : FrameThere (reads_in a.board) b i (place_for a i) x = value_inv (reads_in a.board) b i (place_for a i) x e in
    let w : Whole (reads_in a.board) 0 (drop (place_for a i) b) (holding y.holder i y.value) =
    ((reader_exact (reads_in a.board)).is-whole 0 (place_for a i) (drop (place_for a i) b) (holding y.holder i y.value)).0 y.read in (
      y.holder,
      y.value,
      record { after = w.rest; bytes = w.bytes; legal = w.stands },
      y.is,
    )

pub holds-value : (a : Asking) (i : ObjectId) (k : Holder) (v : List ℕ) → PlaceHolds a i k v → (place_for a i ≡ 0 → ⊥)
    → value_for a i (place_for a i) ≡ some (record { at = place_for a i + front k; bytes = v })
holds-value a i k v y n =
    let b : List ℕ = block (size_for a) a.board.rest.block a.image in
    value_there (reads_in a.board) b k i v (place_for a i) n
    (((reader_exact (reads_in a.board)).is-whole 0 (place_for a i) (drop (place_for a i) b) (holding k i v)).1
    (record { rest = y.after; stands = y.legal; bytes = y.bytes }))

-- under a record that fits no place is lost, and an id without one has no object
id-asked : (m : List ℕ) (i : ObjectId) → Means m (Read i) → i.0 ≤ 255
id-asked m i (_, _, _, b) = b

module _ (a : Asking) (x : Journal) (by : Bytes a.image) (ok : allowed a.blocks (length a.image) ≡ true) (f : FreshFor a x) where
  is_held : held_for a ≡ some x
  unfolding FreshExact
  is_held = (fresh-exact a.blocks a.image a.board x by ok).1 f

  pub never_lost : PlaceLost a → ⊥
  never_lost y = go y.misfits
    where
      go : (length a.image ≡ suc a.board.rest.last → ⊥) ⊎ ((a.blocks ≡ a.board.rest.blocks → ⊥)
          ⊎ ((place_for a y.id ≡ 0 → ⊥) × ((k : Holder) (v : List ℕ) → PlaceHolds a y.id k v → ⊥))) → ⊥
      go (inl l) = l f.length_is
      go (inr (inl n)) = n f.blocks_are
      go (inr (inr (n, m))) =
          let z = place_some a x by ok is_held y.id (id-asked a.message y.id y.is_asked) n in
          let w = place-holds a y.id z.0 z.1 in
          m w.0 w.1 w.2

  pub absent_none : (y : NoObject a) → lookup y.id (replay_of x).objects ≡ none
  absent_none y = place_none a x by ok is_held y.id (id-asked a.message y.id y.is_asked) y.no_place

-- what asks for no read: the lines of other requests
abbrev Other : Asking → Type 0
Other a = (q : Request) × Means a.message q × ((j : ObjectId) → q ≡ Read j → ⊥)

pub short-asks : (a : Asking) → ShortReply a → Other a
short-asks a y = (Log y.page, y.is_asked, λ j e. let w : ◌≡◌ {A = ℕ} 0 1 = cc in omega arith)

pub pending-asks : (a : Asking) → StillPending a → Other a
pending-asks a y = (Convert, y.is_asked, λ j e. let w : ◌≡◌ {A = ℕ} 0 1 = cc in omega arith)

pub share-asks : (a : Asking) → HostFull a → Other a
share-asks a (put_over x d f k l) = (Put d, k, λ j e. let w : ◌≡◌ {A = ℕ} 0 1 = cc in omega arith)
share-asks a (delete_over x d f k l) = (Delete d, k, λ j e. let w : ◌≡◌ {A = ℕ} 0 1 = cc in omega arith)

pub room-asks : (a : Asking) → NoRoom a → Other a
room-asks a (for_put x d f k l) = (Put d, k, λ j e. let w : ◌≡◌ {A = ℕ} 0 1 = cc in omega arith)
room-asks a (for_delete x d f k l) = (Delete d, k, λ j e. let w : ◌≡◌ {A = ℕ} 0 1 = cc in omega arith)
room-asks a (for_convert x f k l) = (Convert, k, λ j e. let w : ◌≡◌ {A = ℕ} 0 1 = cc in omega arith)

pub worn-asks : (a : Asking) → Worn a → Other a
worn-asks a y = (
  y.asked,
  y.is_asked,
  λ j e. subst (λ (q : Request). Moves a y.holding (task_for a.host a.message y.holding q)) e y.moves,
)

pub not-other : (a : Asking) (i : ObjectId) → Means a.message (Read i) → Other a → ⊥
not-other a i means w = w.2 i (one-request a.message w.0 (Read i) w.1 means)

module _ (a : Asking) (i : ObjectId) (means : Means a.message (Read i)) where
  abbrev p : ℕ
  p = place_for a i

  abbrev shape : Bool
  shape = same_shape a.blocks (length a.image) a.board

  -- the id that is asked for
  pub asked_is : (j : ObjectId) → Means a.message (Read j) → j ≡ i
  asked_is j w = let q : Read j ≡ Read i = one-request a.message (Read j) (Read i) w means in cc

  abbrev Misfits : Type 0
  Misfits = (length a.image ≡ suc a.board.rest.last → ⊥) ⊎ ((a.blocks ≡ a.board.rest.blocks → ⊥)
      ⊎ ((p ≡ 0 → ⊥) × ((k : Holder) (v : List ℕ) → PlaceHolds a i k v → ⊥)))

  misshapen : shape ≡ false → Misfits
  misshapen t =
      on_test (eqb (length a.image) (suc a.board.rest.last))
      (λ l. inr (inl (λ n. clash shape (same-shape (length a.image) a.board (eqb-true (length a.image) (suc a.board.rest.last) l) n) t)))
      (λ l. inl (eqb-false (length a.image) (suc a.board.rest.last) l))

  lost : (o : Option Value) → value_for a i p ≡ o → is_none o ≡ true → (p ≡ 0 → ⊥) → (k : Holder) (v : List ℕ) → PlaceHolds a i k v → ⊥
  lost none e t n k v y =
      let z : ◌≡◌ {A = Option Value} none (some (record { at = p + front k; bytes = v })) = sym e ∙ holds-value a i k v y n in
      let w : ◌≡◌ {A = ℕ} 0 1 = cc in
      omega arith
  lost (some x) e t n k v y = false-true t

  misfits : place_lost a i ≡ true → Misfits
  misfits t =
      on_test shape
      (λ s.
      let u : (not (eqb p 0) && is_none (value_for a i p)) ≡ true = rw s at t in
      on_test (eqb p 0)
      (λ z. let w : false ≡ true = rw z at u in false-true w)
      (λ z.
      let n : p ≡ 0 → ⊥ = eqb-false p 0 z in
      inr (inr (n, lost (value_for a i p) refl (and_right (not (eqb p 0)) (is_none (value_for a i p)) u) n))))
      (λ s. misshapen s)

  is_lost : Misfits → place_lost a i ≡ true
  is_lost f = on_test shape (λ s. rw s (go f s)) (λ s. rw s)
    where
      nothing : (o : Option Value) → value_for a i p ≡ o → ((k : Holder) (v : List ℕ) → PlaceHolds a i k v → ⊥) → is_none o ≡ true
      nothing none e n = refl
      nothing (some x) e n = let w = place-holds a i x e in absurd (n w.0 w.1 w.2)

      go : Misfits → shape ≡ true → (not (eqb p 0) && is_none (value_for a i p)) ≡ true
      go (inl l) s =
          absurd (l (eqb-true (length a.image) (suc a.board.rest.last)
          (and_left (eqb (length a.image) (suc a.board.rest.last)) (eqb a.blocks a.board.rest.blocks) s)))
      go (inr (inl n)) s =
          absurd (n (eqb-true a.blocks a.board.rest.blocks
          (and_right (eqb (length a.image) (suc a.board.rest.last)) (eqb a.blocks a.board.rest.blocks) s)))
      go (inr (inr (n, m))) s = rw (ne_eqb p 0 n) (nothing (value_for a i p) refl m)

  lost_test : Tests (place_lost a i) (PlaceLost a)
  lost_test =
      record {
        yes = λ t. record { id = i; is_asked = means; misfits = misfits t };
        no = λ y. by y.id (asked_is y.id y.is_asked) y.misfits;
      }
    where
      by : (j : ObjectId) → j ≡ i → (length a.image ≡ suc a.board.rest.last → ⊥) ⊎ ((a.blocks ≡ a.board.rest.blocks → ⊥)
          ⊎ ((place_for a j ≡ 0 → ⊥) × ((k : Holder) (v : List ℕ) → PlaceHolds a j k v → ⊥))) → place_lost a i ≡ true
      by j e f = is_lost (subst (λ (d : ObjectId). (length a.image ≡ suc a.board.rest.last → ⊥) ⊎ ((a.blocks ≡ a.board.rest.blocks → ⊥)
          ⊎ ((place_for a d ≡ 0 → ⊥) × ((k : Holder) (v : List ℕ) → PlaceHolds a d k v → ⊥)))) e f)

  absent_test : Tests (eqb p 0) (NoObject a)
  absent_test =
      record {
        yes = λ t. record { id = i; is_asked = means; no_place = eqb-true p 0 t };
        no = λ y. eq-eqb p 0 (ap (place_for a) (sym (asked_is y.id y.is_asked)) ∙ y.no_place);
      }

  never : {P : Type 0} → (P → Other a) → Tests false P
  never f = record { yes = λ t. false-true t; no = λ y. absurd (not-other a i means (f y)) }

  pub placed_rows : Rows (read_checks a i) (line 11 (PlaceLost a) ∷ line 8 (NoObject a) ∷ line 9 (ShortReply a) ∷ line 16 (StillPending a)
      ∷ line 12 (HostFull a) ∷ line 7 (NoRoom a) ∷ line 6 (Worn a) ∷ [])
  placed_rows =
      row refusal.Stale lost_test (λ _.
      row refusal.NoObject absent_test (λ _.
      row refusal.ShortReply (never (short-asks a)) (λ _.
      row refusal.Pending (never (pending-asks a)) (λ _.
      row refusal.HostFull (never (share-asks a)) (λ _.
      row refusal.NoRoom (never (room-asks a)) (λ _.
      row refusal.Worn (never (worn-asks a)) (λ _. end)))))))
