-- Reads by their places: what the code locates is what the definition hands back.
use mathlib.Core.Path.{◌≡◌, refl, sym, ap, subst, ◌∙◌}
use mathlib.Core.List.{List, [], ◌∷◌}
use mathlib.Core.Option.{Option, none, some}
use mathlib.Core.Bool.{Bool, true, false, ◌&&◌, cond}
use Prim.Native.Nat.{ℕ, ◌+◌, ◌*◌, ◌≤◌, ◌<◌}
use native.Mathlib.Nat.{mul-le-mul}
use native.Mathlib.Omega.{arith}
use lib.Dec.{eqb, ltb}
use lib.ListN.{length, get_or, take, drop_of_length-le}
use lib.Seq.{take-nil, drop-nil}
use borrow.Author.Tests.{ltb-true, ltb-false}
use Rattle.flash.specs.Flash.{block, size_of}
use Rattle.flash.proofs.Cases.{on_test}
use Rattle.frame.specs.declared.Edition.{Edition}
use Rattle.frame.specs.declared.Edition.TheVariants as edition
use Rattle.frame.specs.declared.ObjectId.{ObjectId}
use Rattle.frame.specs.Frame.{edition_by, Change, put, delete, Frame, change, commit, abort}
use Rattle.frame.specs.Reader.{read_frame}
use Rattle.frame.proofs.Exact.{read-blank}
use Rattle.std.specs.Prelude.{Some, None, Result, Ok, Err, IfOk}
use Rattle.fetch.specs.declared.Found.{Found}
use Rattle.journal.specs.Block.{Journal, last_time}
use Rattle.journal.specs.Replay.{Entry, is_open_of}
use Rattle.journal.specs.Room.{used, no_room_of, host_full}
use Rattle.journal.specs.Index.{Value, value_read, value_at}
use Rattle.fetch.specs.Fetch.{found_of}
use Rattle.fetch.proofs.Fetching.{in_block, found_at}
use Rattle.wire.specs.declared.Answer.{Answer}
use Rattle.wire.specs.declared.Refusal.{Refusal}
use Rattle.wire.specs.declared.Refusal.TheVariants as refusal
use Rattle.wire.specs.declared.Page.{Page}
use Rattle.wire.specs.declared.Page.TheVariants.{Summary}
use Rattle.wire.specs.declared.Request.{Request}
use Rattle.wire.specs.declared.Request.TheVariants.{Put, Delete, Commit, Abort, Read, Log, Convert}
use Rattle.wire.specs.Message.{Parsed, parse, id_in, of_read_kind, value_in_of, page_len}
use Rattle.board.specs.Record.{allowed, Stretch, no_stretch, Out}
use Rattle.board.specs.Step.{same_shape}
use Rattle.board.specs.Mount.{replay_of}
use Rattle.board.specs.Queue.{append, serve_change, serve_end, convert, convert_with, serve_convert, serve_log, serve, serve_parsed, serve_held}
use Rattle.board.specs.Queue.{read_found, value_for, read_place, read_at, read_parsed, request_on, Asking, size_for, held_for, moves_for, refuse_to, done_at}
use Rattle.board.proofs.Images.{Sized, sized_of, sized-block}
use Rattle.board.proofs.Outcomes.{request_held, request_read, read_malformed, read_misshapen, read_shaped, read_absent, read_there}
use Rattle.board.specs.declared.Rest.{Rest}
use Rattle.board.specs.declared.Phase.TheVariants.{Idle}
use Rattle.job.specs.declared.records.Stepped.{Stepped}
use Rattle.job.specs.Code.{at_rest_of}
use Rattle.looks.specs.declared.image.Image.{Image}
use Rattle.looks.proofs.Images.{block_length}
use Rattle.queue.specs.declared.reads as located
use Rattle.queue.specs.Calls.{place_in, told, stretch_of, located_at, located_in, heard_as, heard_in, answering, read_as_of, telling, Finds}
use Rattle.queue.proofs.Asking.{Passed}
use Rattle.queue.proofs.Handing.{no_read}
use Rattle.serving.specs.Calls.{Asks}
use Rattle.serving.proofs.Answering.{NoRead}

-- ---- one frame

-- what the code locates, as a refusal or a stretch
abbrev pub Located : Type 0
Located = Result located.Stretch.Stretch Refusal

-- its answer and its stretch; and a request's
abbrev shown_of : Located → Answer × ℕ × ℕ
shown_of l = (told l, (stretch_of l).at, (stretch_of l).size)

abbrev shown_by : Out → Answer × ℕ × ℕ
shown_by o = (o.answer, o.stretch.at, o.stretch.size)

module _ (a : Asking) where
  located-at : (o : Option Value) → shown_of (located_at (a.board.rest.block * size_for a) (found_of o)) ≡ shown_by (read_found a o)
  located-at none = refl
  located-at (some x) = refl

  located_is : (i : ObjectId) (p : ℕ) → p ≡ get_or a.board.places i.0 0
      → shown_of (located_in a.blocks a.image a.board.rest p i) ≡ shown_by (read_at a i)
  unfolding located_in
  located_is i p e =
      on_test (same_shape a.blocks (length a.image) a.board)
      (λ t. on_test (eqb p 0)
      (λ z. rw (t, z, located_in) (sym (ap shown_by (read_shaped a i t ∙ ap (read_place a i) (sym e) ∙ read_absent a i p z))))
      (λ z. rw (t, z, located_in)
      (located-at (value_for a i p) ∙ sym (ap shown_by (read_shaped a i t ∙ ap (read_place a i) (sym e) ∙ read_there a i p z)))))
      (λ t. rw (t, located_in) (sym (ap shown_by (read_misshapen a i t))))

  heard_is : (p : ℕ) → p ≡ place_in a.board.places a.message
      → shown_of (heard_in a.blocks a.image a.board.rest p a.message) ≡ shown_by (read_parsed a (parse a.message))
  heard_is p e = go (parse a.message)
    where
      go : (x : Parsed) → shown_of (heard_as a.blocks a.image a.board.rest p a.message x) ≡ shown_by (read_parsed a x)
      go None = refl
      go (Some q) = located_is (id_in a.message) p e

  -- it is refused or done, and nothing changes
  read_told : (P : Out → Type 0) → ((why : Refusal) → P (refuse_to a why)) → ((st : Stretch) → P (done_at a a.reply st))
      → P (read_parsed a (parse a.message))
  read_told P f g = go (parse a.message)
    where
      value : (o : Option Value) → P (read_found a o)
      value none = f refusal.Stale
      value (some x) = g _

      at : (i : ObjectId) → P (read_at a i)
      at i =
          on_test (same_shape a.blocks (length a.image) a.board)
          (λ t. on_test (eqb (get_or a.board.places i.0 0) 0)
          (λ z. subst P (sym (read_shaped a i t ∙ read_absent a i _ z)) (f refusal.NoObject))
          (λ z. subst P (sym (read_shaped a i t ∙ read_there a i _ z)) (value (value_for a i _))))
          (λ t. subst P (sym (read_misshapen a i t)) (f refusal.Stale))

      go : (x : Parsed) → P (read_parsed a x)
      go None = f refusal.Malformed
      go (Some q) = at (id_in a.message)

  pub read_asks : (p f : List ℕ) (s : Stepped) → Passed a.blocks (length a.image) a.board.phase a.host → of_read_kind a.message ≡ true
      → s ≡ answering a.board.rest (heard_in a.blocks a.image a.board.rest (place_in a.board.places a.message) a.message)
      → let o : Out = request_on a in Asks a.board p f s o × (a.reply ≡ o.reply)
  read_asks p f s g k e =
      rw (request_read a g.ok g.host k g.idle, e ∙ ap (λ (y : Answer × ℕ × ℕ). at_rest_of y.0 Idle a.board.rest) (heard_is _ refl))
      (read_told (λ (o : Out). Asks a.board p f (at_rest_of o.answer Idle a.board.rest) o × (a.reply ≡ o.reply))
      (λ why. (record { answers = refl; gives = refl; rests = refl }, refl)) (λ st. (record { answers = refl; gives = refl; rests = refl }, refl)))

-- a message heard by the place of the id in it
pub heard_by : (N : ℕ) (img m ps : List ℕ) (z : Rest) {l : Located} {p : ℕ} {i : ObjectId} → l ≡ heard_in N img z p m → p ≡ get_or ps i.0 0 → i ≡ id_in m
    → l ≡ heard_in N img z (place_in ps m) m
heard_by N img m ps z h e q =
    h ∙ ap (λ (p : ℕ). heard_in N img z p m) (e ∙ ap (λ (i : ObjectId). get_or ps i.0 0) q)

-- ---- what is found lies in the image

value_nil : (ed : Edition) (i : ObjectId) (p : ℕ) → value_at ed [] i p ≡ none
unfolding value_at
value_nil ed i p =
    on_test (eqb p 0) (λ t. rw (t, value_at))
    (λ t. rw (t, value_at) (ap (value_read i p) (ap (read_frame ed 0 p) (drop-nil p) ∙ read-blank ed 0 p 0)))

module _ (N : ℕ) (img : List ℕ) (k : ℕ) (ok : allowed N (length img) ≡ true) where
  abbrev current : List ℕ
  current = block (size_of N img) k img

  -- a block that isn't there has no bytes
  block_past : N ≤ k → current ≡ []
  block_past h =
      let z : Sized N (size_of N img) img = sized_of N img ok in
      let s : size_of N img ≤ size_of N img = omega arith in
      let m : N * size_of N img ≤ k * size_of N img = mul-le-mul h s in
      ap (take (size_of N img)) (drop_of_length-le img {i = k * size_of N img} (omega (arith, z.all, m)))
      ∙ take-nil (size_of N img)

  pub found_inside : (ed : Edition) (i : ObjectId) (p : ℕ) (y : Found) → found_of (value_at ed current i p) ≡ Some y
      → (k * size_of N img + y.at + y.size ≤ length img) × (length img ≤ 65536)
  found_inside ed i p y e =
      let x = found_at (value_at ed current i p) y e in
      let z : Sized N (size_of N img) img = sized_of N img ok in
      let w = in_block ed current i p x.0 x.1 in
      on_test (ltb k N)
      (λ t. let h : k < N = ltb-true k N t in
      omega (arith, w.inside, x.2, block_length N img k ok h, sized-block k z h, z.short))
      (λ t. let q : None ≡ Some y =
      sym (ap found_of (ap (λ (b : List ℕ). value_at ed b i p) (block_past (ltb-false k N t)) ∙ value_nil ed i p)) ∙ e in cc)

-- by what the code reads
pub placed_inside : (x : Image) (z : Rest) (i : ObjectId) (p : ℕ) {size : ℕ} {b : List ℕ} {ed : Edition} {o : Rattle.std.specs.Prelude.Option Found} (y : Found)
    → size ≡ size_of x.blocks x.bytes.now → b ≡ block (size_of x.blocks x.bytes.now) z.block x.bytes.now → ed ≡ edition_by z.edition → o ≡ found_of (value_at ed b i p) → o ≡ Some y
    → (z.block * size + y.at + y.size ≤ length x.bytes.now) × (length x.bytes.now ≤ 65536)
placed_inside x z i p y e q d f g =
    rw e (found_inside x.blocks x.bytes.now z.block x.is_allowed (edition_by z.edition) i p y (rw (q, d) at (sym f ∙ g)))

-- ---- no other request has a stretch

module _ (a : Asking) (x : Journal) where
  cond_none : (t : Bool) (o v : Out) → o.stretch ≡ no_stretch → v.stretch ≡ no_stretch → (cond t o v).stretch ≡ no_stretch
  cond_none true o v p q = p
  cond_none false o v p q = q

  append_none : (f : Frame) → (append a x f).stretch ≡ no_stretch
  unfolding append
  append_none f = cond_none (moves_for a x f && eqb x.time last_time) _ _ refl refl

  change_none : (c : Change) → (serve_change a x c).stretch ≡ no_stretch
  unfolding serve_change
  change_none c =
      cond_none (host_full x.edition (size_for a) (replay_of x) a.host c) _ _ refl
      (cond_none (no_room_of x.edition (size_for a) (replay_of x) a.host c) _ _ refl (append_none (change a.host c)))

  end_none : (f : Frame) → (serve_end a x f).stretch ≡ no_stretch
  unfolding serve_end
  end_none f = cond_none (is_open_of a.host (replay_of x).pending) _ _ (append_none f) refl

  log_none : (p : Page) → (serve_log a x p).stretch ≡ no_stretch
  unfolding serve_log
  log_none Summary = cond_none (ltb (length a.reply) page_len) _ _ refl refl

  convert_none : (e : Edition) → (convert a x e).stretch ≡ no_stretch
  unfolding convert
  convert_none edition.First = cond_none (eqb x.time last_time) _ _ refl refl
  convert_none edition.Second = refl

  converted_none : (es : List Entry) → (convert_with a x es).stretch ≡ no_stretch
  converted_none [] = cond_none (ltb (size_for a) (used edition.Second (replay_of x))) _ _ refl (convert_none x.edition)
  converted_none (e ∷ es) = refl

  served_none : (q : Request) → NoRead q → (serve a x q).stretch ≡ no_stretch
  unfolding serve serve_convert
  served_none (Put i) n = change_none (put i (value_in_of a.message))
  served_none (Delete i) n = change_none (delete i)
  served_none Commit n = end_none (commit a.host)
  served_none Abort n = end_none (abort a.host)
  served_none (Read i) n = absurd n
  served_none (Log p) n = log_none p
  served_none Convert n = converted_none (replay_of x).pending

-- ---- a read's answer and its stretch

inside-of : (l : Located) (n : ℕ) → IfOk l (λ s. s.at + s.size ≤ n) → (stretch_of l).at + (stretch_of l).size ≤ n
inside-of (Ok s) n i = i
inside-of (Err why) n i = omega arith

module _ (a : Asking) (l : Located) where
  pub shut_finds : (why : Refusal) → request_on a ≡ refuse_to a why
      → request_on (telling a (read_as_of a.message)) ≡ refuse_to (telling a (read_as_of a.message)) why
      → l ≡ Err why → Finds a l
  shut_finds why e f q =
      rw q (record {
        answers = sym (ap (λ (o : Out). o.answer) f);
        at = sym (ap (λ (o : Out). o.stretch.at) e);
        size = sym (ap (λ (o : Out). o.stretch.size) e);
        inside = omega arith;
      })

  module _ (g : Passed a.blocks (length a.image) a.board.phase a.host) where
    other_none : of_read_kind a.message ≡ false → (request_on a).stretch ≡ no_stretch
    other_none k = ap (λ (o : Out). o.stretch) (request_held a g.ok g.host k g.idle) ∙ held (held_for a)
      where
        parsed : (x : Journal) (m : Parsed) → parse a.message ≡ m → (serve_parsed a x m).stretch ≡ no_stretch
        parsed x None e = refl
        parsed x (Some q) e = served_none a x q (no_read a.message q e k)

        held : (o : Option Journal) → (serve_held a o).stretch ≡ no_stretch
        held none = refl
        held (some x) = parsed x (parse a.message) refl

    -- a message of another kind
    pub other_finds : of_read_kind a.message ≡ false → l ≡ Err refusal.Malformed → Finds a l
    unfolding parse
    other_finds k q =
        let m : List ℕ = 4 ∷ 0 ∷ 5 ∷ 1 ∷ [] in
        let e : request_on (telling a m) ≡ refuse_to (telling a m) refusal.Malformed =
        read_malformed (telling a m) g.ok g.host refl g.idle refl in
        let t : read_as_of a.message ≡ m = rw k in
        rw q (record {
          answers = sym (ap (λ (x : List ℕ). (request_on (telling a x)).answer) t ∙ ap (λ (o : Out). o.answer) e);
          at = sym (ap (λ (s : Stretch). s.at) (other_none k));
          size = sym (ap (λ (s : Stretch). s.size) (other_none k));
          inside = omega arith;
        })

    pub read_finds : (p : ℕ) → p ≡ place_in a.board.places a.message → of_read_kind a.message ≡ true
        → l ≡ heard_in a.blocks a.image a.board.rest p a.message → IfOk l (λ s. s.at + s.size ≤ length a.image) → Finds a l
    read_finds p e k q i =
        let t : read_as_of a.message ≡ a.message = rw k in
        let w : shown_of l ≡ shown_by (request_on a) = ap shown_of q ∙ heard_is a p e ∙ sym (ap shown_by (request_read a g.ok g.host k g.idle)) in
        record {
          answers = ap (λ (y : Answer × ℕ × ℕ). y.0) w ∙ sym (ap (λ (x : List ℕ). (request_on (telling a x)).answer) t);
          at = ap (λ (y : Answer × ℕ × ℕ). y.1) w;
          size = ap (λ (y : Answer × ℕ × ℕ). y.2) w;
          inside = inside-of l (length a.image) i;
        }
