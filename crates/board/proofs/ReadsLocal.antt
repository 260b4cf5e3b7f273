-- An accepted read hands back the value of the frame at its place, and looks at no other byte, document 02, K8.
use mathlib.Core.Path.{◌≡◌, refl, sym, ap, ap₂, subst, ◌∙◌}
use mathlib.Core.List.{List, [], ◌∷◌, ◌++◌}
use mathlib.Core.Logic.{◌⊎◌, inl, inr}
use mathlib.Core.Bool.{true}
use Prim.Native.Nat.{ℕ, ◌+◌, ◌*◌, suc, ◌-◌, ◌≤◌, ◌<◌, min}
use native.Mathlib.Omega.{arith}
use lib.Dec.{leb}
use lib.ListN.{length, drop, get_or, take, length-append, length-take, length-drop, get_or-append, take-append-drop}
use lib.Seq.{get_or-take, get_or-drop, ext_get_or}
use Rattle.flash.specs.Bytes.{Bytes}
use Rattle.flash.specs.Flash.{block, size_in, size_of}
use Rattle.flash.proofs.Cases.{on_test}
use Rattle.frame.specs.declared.ObjectId.{ObjectId}
use Rattle.frame.specs.Frame.{host_max, Frame, encode}
use Rattle.frame.specs.Reader.{whole}
use Rattle.frame.proofs.Sentences.{reader_exact}
use Rattle.journal.specs.Index.{Value}
use Rattle.journal.specs.Laws.{Holder, put_by, settled_as, holding, front}
use Rattle.wire.specs.declared.Refusal.{Refusal}
use Rattle.wire.specs.declared.Request.TheVariants.{Read}
use Rattle.wire.specs.Message.{id_in}
use Rattle.wire.specs.Sentences.{Means, MessagesExact, ReadKindExact}
use Rattle.wire.proofs.Sentences.{messages_exact, read-kind-exact, asks_read, read_asked}
use Rattle.frame.specs.declared.Host.{Host}
use Rattle.wire.specs.declared.Answer.{Answer}
use Rattle.board.proofs.Answering.{Both, both_taken, both_refused, same-numbered, number-done}
use Rattle.frame.proofs.Encode.{length-encode}
use Rattle.board.specs.Reads.{AgreeFrom, frame_start, ReadLocal}
use Rattle.board.specs.Exec.{Call, request, Machine}
use Rattle.board.specs.declared.Record.{Record}
use Rattle.board.specs.declared.Phase.{Phase}
use Rattle.board.specs.declared.Phase.TheVariants.{Unmounted, Idle, Busy}
use Rattle.board.specs.Record.{allowed, reads_in, Out, Accepted}
use Rattle.board.specs.Queue.{Asking, size_for, refuse_to, read_at, request_on, asking}
use Rattle.board.specs.Table.{place_for, PlaceHolds}
use Rattle.board.specs.Table.{Line, line, Exactly, Allowed, InJob, PlaceLost, NoObject, ShortReply, StillPending, HostFull, NoRoom, Worn, request_lines}
use Rattle.board.specs.Promise.{HandsPlace, Calls}
use Rattle.board.proofs.Outcomes.{request_length, request_host, request-in, read_placed, ReadCase, misshapen, absent, lost, found, read_case}
use Rattle.board.proofs.TablingReads.{place-holds, short-asks, pending-asks, share-asks, room-asks, worn-asks, not-other, asked_is}

-- ---- an accepted read

refuses : (a : Asking) {n : Refusal} {o : Out} {P : Type 0} → o ≡ refuse_to a n → Accepted o.answer → P
refuses a e t = absurd (subst (λ (x : Out). Accepted x.answer) e t)

module _ (a : Asking) (i : ObjectId) (w : Means a.message (Read i)) where
  is_id : id_in a.message ≡ i
  is_id = let q : Read i ≡ Read (id_in a.message) = read_asked a.message (Read i) w (asks_read a.message i w) in cc

  placed : ReadCase a i → Accepted (read_at a i).answer → HandsPlace a i (read_at a i)
  placed (misshapen t e) y = refuses a e y
  placed (absent t z e) y = refuses a e y
  placed (lost t z v e) y = refuses a e y
  placed (found x t z v e) y =
      let h = place-holds a i x v in
      subst (HandsPlace a i) (sym e)
      (record {
        holder = h.0;
        value = h.1;
        holds = h.2;
        answers = refl;
        board = refl;
        writes = refl;
        is = ap (λ (u : Value). record { at = a.board.rest.block * size_for a + u.at; size = length u.bytes }) h.3;
      })

  pub reads : Accepted (request_on a).answer → HandsPlace a i (request_on a)
  unfolding MessagesExact ReadKindExact
  reads t =
      on_test (allowed a.blocks (length a.image))
      (λ ok. on_test (leb a.host.0 host_max) (λ k. phase ok k a.board.phase refl) (λ k. refuses a (request_host a ok k) t))
      (λ no. refuses a (request_length a no) t)
    where
      phase : allowed a.blocks (length a.image) ≡ true → leb a.host.0 host_max ≡ true → (p : Phase) → a.board.phase ≡ p
          → HandsPlace a i (request_on a)
      phase ok k (Busy s) e = refuses a (request-in a ok k e) t
      phase ok k Unmounted e = refuses a (request-in a ok k e) t
      phase ok k Idle e =
          let f : request_on a ≡ read_at a i =
          read_placed a ok k ((read-kind-exact a.message).1 (asks_read a.message i w)) e (Read i) ((messages_exact a.message (Read i)).1 w)
          ∙ ap (read_at a) is_id in
          subst (HandsPlace a i) (sym f) (placed (read_case a i) (subst (λ (o : Out). Accepted o.answer) f t))

-- ---- the frame at a place is one

same_parts : (i : ObjectId) (k j : Holder) (v u : List ℕ) → holding k i v ≡ holding j i u → (front k ≡ front j) × (v ≡ u)
same_parts i (put_by h) (put_by g) v u e = (refl, cc)
same_parts i (put_by h) settled_as v u e = let z : ◌≡◌ {A = ℕ} 0 1 = cc in absurd (omega arith)
same_parts i settled_as (put_by g) v u e = let z : ◌≡◌ {A = ℕ} 0 1 = cc in absurd (omega arith)
same_parts i settled_as settled_as v u e = (refl, cc)

whole_is : {f g : Frame} → whole f ≡ whole g → f ≡ g
whole_is e = cc

pub one_frame : (a : Asking) (i : ObjectId) (k j : Holder) (v u : List ℕ) → PlaceHolds a i k v → PlaceHolds a i j u → (front k ≡ front j) × (v ≡ u)
one_frame a i k j v u x y =
    let t : List ℕ = drop (place_for a i) (block (size_for a) a.board.rest.block a.image) in
    let r = reader_exact (reads_in a.board) in
    same_parts i k j v u (whole_is
    (sym ((r.is-whole 0 (place_for a i) t (holding k i v)).1 (record { rest = x.after; stands = x.legal; bytes = x.bytes }))
    ∙ (r.is-whole 0 (place_for a i) t (holding j i u)).1 (record { rest = y.after; stands = y.legal; bytes = y.bytes })))

-- two reads of one frame hand back one stretch
pub one-stretch : (a : Asking) (i : ObjectId) (o p : Out) → HandsPlace a i o → HandsPlace a i p → o.stretch ≡ p.stretch
one-stretch a i o p x y =
    let f = one_frame a i x.holder y.holder x.value y.value x.holds y.holds in
    x.is ∙ ap₂ (λ (n : ℕ) (v : List ℕ). record { at = a.board.rest.block * size_for a + (place_for a i + n); size = length v }) f.0 f.1 ∙ sym y.is

-- ---- any machine that keeps the promise looks at no other byte

-- the lines that a read can meet
abbrev own_lines : Asking → List Line
own_lines a =
    line 4 (Allowed a.blocks (length a.image) → ⊥) ∷ line 10 (3 < a.host.0) ∷ line 5 (InJob a.board.phase)
    ∷ line 2 (a.board.phase ≡ Unmounted) ∷ line 11 (PlaceLost a) ∷ line 8 (NoObject a) ∷ []

own_lines_lem : (a : Asking) (i : ObjectId) → Means a.message (Read i) → (x : Answer) → Exactly (request_lines a) x → Exactly (own_lines a) x
own_lines_lem a i w x (inl y) = inl y
own_lines_lem a i w x (inr (f, inl y)) = inr (f, inl y)
own_lines_lem a i w x (inr (f, inr (g, inl y))) = inr (f, inr (g, inl y))
own_lines_lem a i w x (inr (f, inr (g, inr (h, inl y)))) = inr (f, inr (g, inr (h, inl y)))
own_lines_lem a i w x (inr (f, inr (g, inr (h, inr (u, inl (n, _)))))) = absurd (n.0 (asks_read a.message i w))
own_lines_lem a i w x (inr (f, inr (g, inr (h, inr (u, inr (_, inl (n, _))))))) = absurd (n (Read i) w)
own_lines_lem a i w x (inr (f, inr (g, inr (h, inr (u, inr (_, inr (_, inl y))))))) = inr (f, inr (g, inr (h, inr (u, inl y))))
own_lines_lem a i w x (inr (f, inr (g, inr (h, inr (u, inr (_, inr (_, inr (l, inl y)))))))) = inr (f, inr (g, inr (h, inr (u, inr (l, inl y)))))
own_lines_lem a i w x (inr (f, inr (g, inr (h, inr (u, inr (_, inr (_, inr (l, inr (o, y))))))))) =
    inr (f, inr (g, inr (h, inr (u, inr (l, inr (o, rest y))))))
  where
    rest : Exactly (line 9 (ShortReply a) ∷ line 16 (StillPending a) ∷ line 12 (HostFull a) ∷ line 7 (NoRoom a) ∷ line 6 (Worn a) ∷ []) x → Accepted x
    rest (inl (y, _)) = absurd (not-other a i w (short-asks a y))
    rest (inr (_, inl (y, _))) = absurd (not-other a i w (pending-asks a y))
    rest (inr (_, inr (_, inl (y, _)))) = absurd (not-other a i w (share-asks a y))
    rest (inr (_, inr (_, inr (_, inl (y, _))))) = absurd (not-other a i w (room-asks a y))
    rest (inr (_, inr (_, inr (_, inr (_, inl (y, _)))))) = absurd (not-other a i w (worn-asks a y))
    rest (inr (_, inr (_, inr (_, inr (_, inr (_, y)))))) = y

-- bytes that agree hold the same frame
same_bytes : (s k p : ℕ) (img other e after : List ℕ) → length img ≡ length other → 0 < length e
    → ((j : ℕ) → k * s + p ≤ j → j < k * s + p + length e → get_or img j 0 ≡ get_or other j 0)
    → drop p (block s k img) ≡ e ++ after → take (length e) (drop p (block s k other)) ≡ e
same_bytes s k p img other e after l some same q =
    let n : ℕ = length e in
    let long : length (drop p (block s k img)) ≡ n + length after = ap length q ∙ length-append e after in
    let size : length (block s k img) ≡ length (block s k other) =
    length-take s (drop (k * s) img) ∙ ap (λ (m : ℕ). min s m) (length-drop (k * s) img ∙ ap (λ (m : ℕ). m - k * s) l ∙ sym (length-drop (k * s) other))
    ∙ sym (length-take s (drop (k * s) other)) in
    let room : p + n ≤ length (block s k img) = omega (arith, long, length-drop p (block s k img)) in
    let top : length (block s k img) ≤ s = omega (arith, length-take s (drop (k * s) img)) in
    let as_long : length (take n (drop p (block s k other))) ≡ n = length-take n (drop p (block s k other))
    ∙ omega (arith, length-drop p (block s k other)) in
    ext_get_or 0 (take n (drop p (block s k other))) e as_long
    (λ j h.
    let at : (i : List ℕ) → get_or (drop p (block s k i)) j 0 ≡ get_or i (k * s + (p + j)) 0 =
    λ i. get_or-drop p (block s k i) j 0 ∙ get_or-take s (drop (k * s) i) (p + j) 0 (omega arith) ∙ get_or-drop (k * s) i (p + j) 0 in
    get_or-take n (drop p (block s k other)) j 0 (omega arith) ∙ at other
    ∙ sym (same (k * s + (p + j)) (omega arith) (omega arith)) ∙ sym (at img) ∙ ap (λ (x : List ℕ). get_or x j 0) q
    ∙ get_or-append e after 0 j (omega arith))

module _ {N : ℕ} {m : Machine} (c : Calls N m) (img other : List ℕ) (r : Record) (h : Host) (msg reply : List ℕ) (i : ObjectId) (k : Holder) (v : List ℕ)
    (by : Bytes img) (bo : Bytes other) (bm : Bytes msg) (w : Means msg (Read i)) where
  abbrev a : Asking
  a = asking N img r h msg reply

  abbrev b : Asking
  b = asking N other r h msg reply

  module _ (y : PlaceHolds a i k v) (g : AgreeFrom (frame_start a i) (length (encode (reads_in r) (holding k i v))) img other) where
    size_is : size_of N img ≡ size_of N other
    size_is = ap (size_in N) g.as_long

    there : PlaceHolds b i k v
    there =
        let e : List ℕ = encode (reads_in r) (holding k i v) in
        let t : List ℕ = drop (place_for a i) (block (size_of N img) r.rest.block other) in
        let f : take (length e) t ≡ e = same_bytes (size_of N img) r.rest.block (place_for a i) img other e y.after g.as_long
        (omega (arith, length-encode (reads_in r) (holding k i v))) g.same y.bytes in
        record {
          after = drop (length e) t;
          bytes = ap (λ (s : ℕ). drop (place_for a i) (block s r.rest.block other)) (sym size_is) ∙ sym (take-append-drop (length e) t)
              ∙ ap (λ (x : List ℕ). x ++ drop (length e) t) f;
          legal = y.legal;
        }

    -- a place is lost in both or in none
    lost_over : PlaceLost b → PlaceLost a
    lost_over z = record { id = z.id; is_asked = z.is_asked; misfits = go z.misfits }
      where
        go : (length other ≡ suc r.rest.last → ⊥) ⊎ ((N ≡ r.rest.blocks → ⊥)
            ⊎ ((place_for b z.id ≡ 0 → ⊥) × ((k : Holder) (v : List ℕ) → PlaceHolds b z.id k v → ⊥)))
            → (length img ≡ suc r.rest.last → ⊥) ⊎ ((N ≡ r.rest.blocks → ⊥)
            ⊎ ((place_for a z.id ≡ 0 → ⊥) × ((k : Holder) (v : List ℕ) → PlaceHolds a z.id k v → ⊥)))
        go (inl l) = inl (λ e. l (sym g.as_long ∙ e))
        go (inr (inl n)) = inr (inl n)
        go (inr (inr (n, f))) = absurd (f k v (subst (λ (j : ObjectId). PlaceHolds b j k v) (sym (asked_is b i w z.id z.is_asked)) there))

    lost_back : PlaceLost a → PlaceLost b
    lost_back z = record { id = z.id; is_asked = z.is_asked; misfits = go z.misfits }
      where
        go : (length img ≡ suc r.rest.last → ⊥) ⊎ ((N ≡ r.rest.blocks → ⊥)
            ⊎ ((place_for a z.id ≡ 0 → ⊥) × ((k : Holder) (v : List ℕ) → PlaceHolds a z.id k v → ⊥)))
            → (length other ≡ suc r.rest.last → ⊥) ⊎ ((N ≡ r.rest.blocks → ⊥)
            ⊎ ((place_for b z.id ≡ 0 → ⊥) × ((k : Holder) (v : List ℕ) → PlaceHolds b z.id k v → ⊥)))
        go (inl l) = inl (λ e. l (g.as_long ∙ e))
        go (inr (inl n)) = inr (inl n)
        go (inr (inr (n, f))) = absurd (f k v (subst (λ (j : ObjectId). PlaceHolds a j k v) (sym (asked_is a i w z.id z.is_asked)) y))

    none_over : NoObject b → NoObject a
    none_over z = record { id = z.id; is_asked = z.is_asked; no_place = z.no_place }

    none_back : NoObject a → NoObject b
    none_back z = record { id = z.id; is_asked = z.is_asked; no_place = z.no_place }

    over : (x : Answer) → Exactly (own_lines b) x → Exactly (own_lines a) x
    over x (inl (f, e)) = inl (λ z. f (subst (Allowed N) g.as_long z), e)
    over x (inr (f, z)) = inr (λ n. f (λ q. n (subst (Allowed N) (sym g.as_long) q)), go z)
      where
        go : Exactly (line 10 (3 < h.0) ∷ line 5 (InJob r.phase) ∷ line 2 (r.phase ≡ Unmounted) ∷ line 11 (PlaceLost b) ∷ line 8 (NoObject b) ∷ []) x
            → Exactly (line 10 (3 < h.0) ∷ line 5 (InJob r.phase) ∷ line 2 (r.phase ≡ Unmounted) ∷ line 11 (PlaceLost a) ∷ line 8 (NoObject a) ∷ []) x
        go (inl z) = inl z
        go (inr (p, inl z)) = inr (p, inl z)
        go (inr (p, inr (q, inl z))) = inr (p, inr (q, inl z))
        go (inr (p, inr (q, inr (u, inl (l, e))))) = inr (p, inr (q, inr (u, inl (lost_over l, e))))
        go (inr (p, inr (q, inr (u, inr (l, inl (n, e)))))) = inr (p, inr (q, inr (u, inr (λ d. l (lost_back d), inl (none_over n, e)))))
        go (inr (p, inr (q, inr (u, inr (l, inr (n, z)))))) = inr (p, inr (q, inr (u, inr (λ d. l (lost_back d), inr (λ d. n (none_back d), z)))))

    abbrev asks : Call
    asks = request h msg reply

    same_read : ((m other r asks).answer ≡ (m img r asks).answer) × ((m other r asks).stretch ≡ (m img r asks).stretch)
    same_read =
        go (same-numbered (own_lines a) (m other r asks).answer (m img r asks).answer (omega arith)
        (over (m other r asks).answer (own_lines_lem b i w (m other r asks).answer (c.table other r asks bo)))
        (own_lines_lem a i w (m img r asks).answer (c.table img r asks by)))
      where
        go : Both (m other r asks).answer (m img r asks).answer
            → ((m other r asks).answer ≡ (m img r asks).answer) × ((m other r asks).stretch ≡ (m img r asks).stretch)
        go (both_refused n e f) = (
          e ∙ sym f,
          ap (λ (o : Out). o.stretch) (c.untouched other r asks n e) ∙ sym (ap (λ (o : Out). o.stretch) (c.untouched img r asks n f)),
        )
        go (both_taken s t) =
            let x : HandsPlace b i (m other r asks) = c.reads other r h msg reply i bo bm w s in
            let z : HandsPlace a i (m img r asks) = c.reads img r h msg reply i by bm w t in
            let d = one_frame b i x.holder k x.value v x.holds there in
            let u = one_frame a i z.holder k z.value v z.holds y in (
              number-done (m other r asks).answer x.answers ∙ sym (number-done (m img r asks).answer z.answers),
              x.is ∙ ap (λ (l : ℕ). record { at = r.rest.block * l + (place_for a i + front x.holder); size = length x.value }) (sym size_is)
                  ∙ ap₂ (λ (n : ℕ) (bs : List ℕ). record { at = r.rest.block * size_of N img + (place_for a i + n); size = length bs })
                  (d.0 ∙ sym u.0) (d.1 ∙ sym u.1)
                  ∙ sym z.is,
            )

pub read-local : {N : ℕ} {m : Machine} → Calls N m → ReadLocal N m
unfolding ReadLocal
read-local c img other r h msg reply i k v by bo bm w y g = same_read c img other r h msg reply i k v by bo bm w y g
