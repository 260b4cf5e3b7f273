-- Reads by their places, document 02, K8: what stands at a place, and that under a record and the image handed out with it a read by its place is one by a
-- scan.
use mathlib.Core.Path.{◌≡◌, refl, sym, ap, subst, subst₂, ◌∙◌}
use mathlib.Core.List.{List}
use mathlib.Core.Option.{Option, none, some}
use mathlib.Core.Bool.{true, false}
use Prim.Native.Nat.{ℕ, suc, ◌*◌, ◌≤◌}
use native.Mathlib.Omega.{arith}
use lib.Dec.{leb}
use lib.ListN.{length, get_or}
use borrow.Author.Tests.{eq-eqb, ne_eqb, le-leb}
use Rattle.flash.specs.Bytes.{Bytes}
use Rattle.flash.specs.Flash.{block}
use Rattle.flash.proofs.Cases.{on_test, clash}
use Rattle.frame.specs.declared.Edition.{Edition}
use Rattle.frame.specs.declared.ObjectId.{ObjectId}
use Rattle.frame.specs.Frame.{host_max, edition_by}
use Rattle.frame.proofs.Encode.{edition-back}
use Rattle.journal.specs.Replay.{lookup}
use Rattle.journal.specs.Block.{Journal}
use Rattle.journal.specs.Index.{Value, value_at}
use Rattle.journal.proofs.Places.{Standing, ValueStands, place_law, no_place}
use Rattle.wire.specs.declared.Request.{Request}
use Rattle.wire.specs.declared.Request.TheVariants.{Read}
use Rattle.wire.specs.Message.{Parsed, parse, of_read_kind, id_in}
use Rattle.std.specs.Prelude.{Some, None}
use Rattle.wire.specs.Sentences.{Means, MessagesExact, ReadKindExact}
use Rattle.wire.proofs.Sentences.{messages_exact, read-kind-exact, read_asked, asks_read}
use Rattle.board.specs.declared.Phase.TheVariants.{Idle}
use Rattle.board.specs.declared.Rest.{Rest}
use Rattle.board.specs.declared.Record.{Record}
use Rattle.board.specs.Record.{allowed, idle, reads_in}
use Rattle.board.specs.Step.{same_shape}
use Rattle.board.specs.Mount.{replay_of, places_in}
use Rattle.board.specs.Queue.{Asking, size_for, held_for, done_at, stretch_of, read_at, read_found, read_place, serve_parsed, serve_held, serve, request_on}
use Rattle.board.specs.Queue.{value_for}
use Rattle.board.specs.Table.{FreshExact, place_for}
use Rattle.board.specs.Reads.{ServedAsBefore}
use Rattle.board.proofs.Images.{sized_of}
use Rattle.board.proofs.Pipeline.{same-shape}
use Rattle.board.proofs.Invariant.{Ready}
use Rattle.board.proofs.Holding.{held_inv}
use Rattle.board.proofs.Replies.{standing-of}
use Rattle.board.proofs.Freshness.{fresh-exact}
use Rattle.board.proofs.Outcomes.{read_none, read_some, request_held, read_malformed, read_placed, read_shaped, read_absent, read_there}

-- a message means one request
pub is_request : {x y : Request} → Some x ≡ Some y → x ≡ y
is_request e = cc

pub one-request : (m : List ℕ) (q s : Request) → Means m q → Means m s → q ≡ s
unfolding MessagesExact
one-request m q s a b = is_request (sym ((messages_exact m q).1 a) ∙ (messages_exact m s).1 b)

-- a message of any other kind asks for no read
pub no_read : (m : List ℕ) → of_read_kind m ≡ false → (i : ObjectId) → parse m ≡ Some (Read i) → ⊥
unfolding MessagesExact ReadKindExact
no_read m k i e = clash (of_read_kind m) ((read-kind-exact m).1 (asks_read m i ((messages_exact m (Read i)).0 e))) k

id-most : (m : List ℕ) → Means m (Read (id_in m)) → (id_in m).0 ≤ 255
id-most m (_, _, _, b) = b

module _ (a : Asking) (x : Journal) (by : Bytes a.image) (ok : allowed a.blocks (length a.image) ≡ true) (e : held_for a ≡ some x) where
  abbrev r : Record
  r = a.board

  abbrev ed : Edition
  ed = x.edition

  abbrev current : List ℕ
  current = block (size_for a) r.rest.block a.image

  ready : (y : Ready a.blocks (size_for a) a.image (idle r.places r.rest)) × (y.journal ≡ x)
  ready = held_inv r (sized_of a.blocks a.image ok) by e

  rest_held : r.rest ≡ ready.0.stands
  rest_held = ap (λ (q : Record). q.rest) ready.0.is

  -- the record's own fields, by what is held
  pub shaped : same_shape a.blocks (length a.image) r ≡ true
  shaped =
      let y = ready.0 in
      same-shape (length a.image) r (y.long ∙ sym (ap (λ (z : Rest). suc z.last) rest_held)) (sym (ap (λ (z : Rest). z.blocks) rest_held ∙ y.blocks))

  pub places_held : r.places ≡ places_in x
  places_held = let y = ready.0 in ap (λ (q : Record). q.places) y.is ∙ ap places_in ready.1

  pub reads_held : reads_in r ≡ ed
  reads_held =
      let y = ready.0 in
      ap (λ (q : Record). edition_by q.rest.edition) y.is ∙ ap edition_by y.edition_is ∙ edition-back y.journal.edition
      ∙ ap (λ (w : Journal). w.edition) ready.1

  stands : (i : ObjectId) (v : List ℕ) → i.0 ≤ 255 → lookup i (replay_of x).objects ≡ some v → ValueStands ed current i (get_or (places_in x) i.0 0) v
  stands i v l q =
      place_law ed current x.frames i v
      (subst₂ (λ (z : Rest) (w : Journal). Standing w.edition (block (size_for a) z.block a.image) w.frames) (sym rest_held) ready.1
      (standing-of ready.0.contents)) l q

  -- an id has a place if it has an object, and its value stands there
  pub place_none : (i : ObjectId) → i.0 ≤ 255 → place_for a i ≡ 0 → lookup i (replay_of x).objects ≡ none
  place_none i l z = go (lookup i (replay_of x).objects) refl
    where
      go : (o : Option (List ℕ)) → lookup i (replay_of x).objects ≡ o → o ≡ none
      go none q = refl
      go (some v) q =
          let n : get_or (places_in x) i.0 0 ≡ 0 = ap (λ (ps : List ℕ). get_or ps i.0 0) (sym places_held) ∙ z in
          absurd (omega (arith, (stands i v l q).past))

  pub place_some : (i : ObjectId) → i.0 ≤ 255 → (place_for a i ≡ 0 → ⊥) → (y : Value) × (value_for a i (place_for a i) ≡ some y)
  place_some i l n = go (lookup i (replay_of x).objects) refl
    where
      go : (o : Option (List ℕ)) → lookup i (replay_of x).objects ≡ o → (y : Value) × (value_for a i (place_for a i) ≡ some y)
      go none q = absurd (n (ap (λ (ps : List ℕ). get_or ps i.0 0) places_held ∙ no_place ed x.frames i l q))
      go (some v) q =
          let w : ValueStands ed current i (get_or (places_in x) i.0 0) v = stands i v l q in (
            record { at = w.at; bytes = v },
            ap (λ (ps : List ℕ). value_for a i (get_or ps i.0 0)) places_held
                ∙ ap (λ (d : Edition). value_at d current i (get_or (places_in x) i.0 0)) reads_held ∙ w.found,
          )

  -- a read by its place is the read by a scan
  pub read_scans : (i : ObjectId) → i.0 ≤ 255 → read_at a i ≡ serve a x (Read i)
  read_scans i l = read_shaped a i shaped ∙ ap (λ (ps : List ℕ). read_place a i (get_or ps i.0 0)) places_held ∙ go (lookup i (replay_of x).objects) refl
    where
      p : ℕ
      p = get_or (places_in x) i.0 0

      go : (o : Option (List ℕ)) → lookup i (replay_of x).objects ≡ o → read_place a i p ≡ serve a x (Read i)
      go none q = read_absent a i p (eq-eqb p 0 (no_place ed x.frames i l q)) ∙ sym (read_none a x i q)
      go (some v) q =
          let w : ValueStands ed current i p v = stands i v l q in
          read_there a i p (ne_eqb p 0 (λ z. omega (arith, w.past)))
          ∙ ap (λ (d : Edition). read_found a (value_at d current i p)) reads_held ∙ ap (read_found a) w.found
          ∙ sym (read_some a x i v q ∙ ap (λ (o : Option Value). done_at a a.reply (stretch_of (r.rest.block * size_for a) o)) w.found)

module _ (a : Asking) (x : Journal) (by : Bytes a.image) (ok : allowed a.blocks (length a.image) ≡ true) (h : a.host.0 ≤ host_max)
    (p : a.board.phase ≡ Idle) (e : held_for a ≡ some x) where
  hosted : leb a.host.0 host_max ≡ true
  hosted = le-leb a.host.0 host_max h

  of-kind : (m : Parsed) → parse a.message ≡ m → of_read_kind a.message ≡ true → request_on a ≡ serve_parsed a x m
  unfolding MessagesExact ReadKindExact
  of-kind None z k = read_malformed a ok hosted k p z
  of-kind (Some q) z k =
      let w : Means a.message q = (messages_exact a.message q).0 z in
      let i : q ≡ Read (id_in a.message) = read_asked a.message q w ((read-kind-exact a.message).0 k) in
      let b : (id_in a.message).0 ≤ 255 = id-most a.message (subst (Means a.message) i w) in
      read_placed a ok hosted k p q z ∙ read_scans a x by ok e (id_in a.message) b ∙ ap (serve a x) (sym i)

  pub as_before : request_on a ≡ serve_parsed a x (parse a.message)
  as_before =
      on_test (of_read_kind a.message) (of-kind (parse a.message) refl) (λ k. request_held a ok hosted k p ∙ ap (serve_held a) e)

pub served-as-before : ServedAsBefore
unfolding ServedAsBefore FreshExact
served-as-before a x by ok h p y = as_before a x by ok h p ((fresh-exact a.blocks a.image a.board x by ok).1 y)
