-- Calls that are given another number of blocks. The record of a run has the run's own: the claim says that the run's next call, whatever it is, is not
-- refused with 11.
use mathlib.Core.Path.{◌≡◌, refl, sym, ap, subst, ◌∙◌}
use mathlib.Core.List.{List, [], ◌∷◌, ◌++◌}
use mathlib.Core.Logic.{◌⊎◌, inl, inr}
use mathlib.Core.Option.{some}
use mathlib.Core.Bool.{false}
use Prim.Native.Nat.{ℕ, suc, ◌≤◌}
use native.Mathlib.Omega.{arith}
use lib.Dec.{eqb}
use borrow.Author.Tests.{eqb-true, eqb-false}
use Rattle.flash.specs.Bytes.{Bytes}
use Rattle.flash.specs.Flash.{size_of, with_block}
use Rattle.flash.proofs.Cases.{on_test, clash}
use Rattle.frame.specs.declared.Host.{Host}
use Rattle.frame.specs.Frame.{host_of}
use Rattle.wire.specs.declared.Answer.{Answer}
use Rattle.wire.specs.declared.Answer.TheVariants.{Done, More, Refused}
use Rattle.wire.specs.declared.Refusal.{Refusal}
use Rattle.wire.specs.declared.Refusal.TheVariants as refusal
use Rattle.wire.specs.Answer.{number_of}
use Rattle.wire.specs.declared.Request.{Request}
use Rattle.wire.specs.Message.{Parsed, parse, of_read_kind, id_in}
use Rattle.std.specs.Prelude.{Some, None}
use Rattle.wire.specs.Sentences.{Means, ReadKind, MessagesExact, MalformedExact, ReadKindExact}
use Rattle.wire.proofs.Sentences.{messages_exact, malformed-exact, read-kind-exact, read_asked}
use Rattle.journal.specs.Block.{Journal}
use Rattle.board.specs.declared.Stage.{Stage}
use Rattle.board.specs.declared.Phase.{Phase}
use Rattle.board.specs.declared.Phase.TheVariants.{Unmounted, Idle, Busy}
use Rattle.board.specs.declared.Record.{Record}
use Rattle.board.specs.Record.{Out, out}
use Rattle.board.specs.Queue.{asking}
use Rattle.board.specs.Exec.{Machine, Call, request, step, format}
use Rattle.board.specs.Table.{Exactly, InJob, request_lines, lines_of, Fresh, PlaceLost}
use Rattle.board.specs.Book.{Book, first_book, enter_call}
use Rattle.board.specs.Claim.{Never, ByteCall, Begins, Event, call, cut_erase, CutsErase, Happens, Run, track, begun_by, formatted, HappensFrom, Claim}
use Rattle.board.specs.Claim.{Track, tracked}
use Rattle.board.specs.CutFormat.{Left, after_all, left_by_of}
use Rattle.board.specs.Promise.{Calls}
use Rattle.board.specs.Counts.{Apart, OtherCounts, MalformedRead}
use Rattle.board.proofs.Answering.{number-refused, number-accepted}
use Rattle.board.proofs.Following.{left_by}

-- ---- what the claim still says at a point of a run

abbrev Upheld : ℕ → Machine → List ℕ → Record → Book → Type 0
Upheld N m img r b = (u : Track) × (a : Call) × ((es : List Event) → Happens N m img r b es → Run N m img r b u a es)

module _ (N : ℕ) (m : Machine) (img : List ℕ) (r : Record) (b : Book) (f : Upheld N m img r b) where
  upheld_call : (c : Call) → ByteCall c → Upheld N m (m img r c).image (m img r c).board (enter_call b c (m img r c).answer)
  upheld_call c bc =
      (track (size_of N img) f.0 b c (m img r c).answer, begun_by f.1 c (m img r c).answer, λ es h. (f.2 (call c ∷ es) (bc, h)).2)

  upheld_cut : (k : ℕ) (new : List ℕ) (q : Record) (c : Call) → CutsErase N m img r b k new → Begins c → ByteCall c
      → let o : Out = m (with_block (size_of N img) k new img) q c in Upheld N m o.image o.board (enter_call b c o.answer)
  upheld_cut k new q c x n bc =
      let i : List ℕ = with_block (size_of N img) k new img in
      let a : Answer = (m i q c).answer in
      (track (size_of N i) f.0 b c a, begun_by f.1 c a, λ es h. (f.2 (cut_erase k new q ∷ call c ∷ es) (x, n, (bc, h))).2)

upheld_after : (N : ℕ) (m : Machine) (img : List ℕ) (r : Record) (b : Book) → Upheld N m img r b → (es : List Event) (c : Call)
    → Happens N m img r b (es ++ (call c ∷ []))
    → let x : Left = after_all N m img r b (es ++ (call c ∷ [])) in Upheld N m x.image x.board x.book
upheld_after N m img r b f [] c (bc, _) = upheld_call N m img r b f c bc
upheld_after N m img r b f (call d ∷ es) c (bd, h) =
    let o : Out = m img r d in upheld_after N m o.image o.board (enter_call b d o.answer) (upheld_call N m img r b f d bd) es c h
upheld_after N m img r b f (cut_erase k new q ∷ []) c (x, n, (bc, _)) = upheld_cut N m img r b f k new q c x n bc
upheld_after N m img r b f (cut_erase k new q ∷ call d ∷ es) c (x, n, (bd, h)) =
    let o : Out = m (with_block (size_of N img) k new img) q d in
    upheld_after N m o.image o.board (enter_call b d o.answer) (upheld_cut N m img r b f k new q d x n bd) es c h
upheld_after N m img r b f (cut_erase k new q ∷ cut_erase j more g ∷ es) c (x, n, h) = absurd n

-- ---- the record has the run's number of blocks

same_count : (N n : ℕ) → ((N ≡ n → ⊥) → ⊥) → N ≡ n
same_count N n f = on_test (eqb N n) (eqb-true N n) (λ t. absurd (f (eqb-false N n t)))

idle-mounted : {p : Phase} → p ≡ Idle → p ≡ Unmounted → ⊥
idle-mounted e q = let w : Idle ≡ Unmounted = sym e ∙ q in let z : ◌≡◌ {A = ℕ} 0 1 = cc in omega arith

module _ {N : ℕ} {m : Machine} (p : Calls N m) (img : List ℕ) (r : Record) (b : Book) (by : Bytes img) (f : Upheld N m img r b) where
  idle_count : r.phase ≡ Idle → N ≡ r.rest.blocks
  idle_count e = go (p.table img r c by)
    where
      c : Call
      c = request (host_of 0) [] []

      says : Never refusal.ImageLength (m img r c) × Never refusal.Stale (m img r c)
      says = let y = (f.2 (call c ∷ []) (tt, tt)).0 in (y.0, y.1)

      go : Exactly (request_lines (asking N img r (host_of 0) [] [])) (m img r c).answer → N ≡ r.rest.blocks
      go (inl (_, n)) = absurd (says.0 (number-refused (m img r c).answer refusal.ImageLength 4 refl (omega arith) n))
      go (inr (_, inl (l, _))) = absurd (omega arith)
      go (inr (_, inr (_, inl (j, _)))) = absurd (subst InJob e j)
      go (inr (_, inr (_, inr (_, inl (q, _))))) = absurd (idle-mounted e q)
      go (inr (_, inr (_, inr (_, inr (_, inl (_, n)))))) = absurd (says.1 (number-refused (m img r c).answer refusal.Stale 11 refl (omega arith) n))
      go (inr (_, inr (_, inr (_, inr (_, inr (g, _)))))) = same_count N r.rest.blocks (λ d. g (λ k. omega (arith, k.long), λ x y. d y.blocks_are))

  busy_count : (s : Stage) → r.phase ≡ Busy s → N ≡ r.rest.blocks
  busy_count s e = go (p.table img r step by)
    where
      go : Exactly (lines_of N img r step) (m img r step).answer → N ≡ r.rest.blocks
      go (inl (_, n)) = absurd ((f.2 (call step ∷ []) (tt, tt)).0 refusal.Stale (number-refused (m img r step).answer refusal.Stale 11 refl (omega arith) n))
      go (inr (g, _)) = same_count N r.rest.blocks (λ d. g (record { stage = s; is-busy = e; misfits = inr (inl d) }))

  -- an unmounted record has none
  counted : (r.phase ≡ Unmounted → ⊥) → N ≡ r.rest.blocks
  counted d = go r.phase refl
    where
      go : (q : Phase) → r.phase ≡ q → N ≡ r.rest.blocks
      go Unmounted e = absurd (d e)
      go Idle e = idle_count e
      go (Busy s) e = busy_count s e

-- ---- and so a call that is given another is refused

refusal-of : (a : Answer) (k : ℕ) → number_of a ≡ some (suc k) → (n : Refusal) × (a ≡ Refused n)
refusal-of Done k e = absurd (number-accepted Done k e tt)
refusal-of More k e = absurd (number-accepted More k e tt)
refusal-of (Refused n) k e = (n, refl)

module _ {M : ℕ} {m : Machine} (p : Calls M m) (img : List ℕ) (r : Record) (by : Bytes img)
    (d : (r.phase ≡ Unmounted → ⊥) → M ≡ r.rest.blocks → ⊥) where
  abbrev Turned : List ℕ → ℕ → Type 0
  Turned msg n = (n ≡ 4) ⊎ ((n ≡ 11) ⊎ ((n ≡ 1) × MalformedRead msg))

  -- the first line of the table that holds
  turned : (h : Host) (msg reply : List ℕ) → (k : ℕ) × (number_of (m img r (request h msg reply)).answer ≡ some (suc k))
      × (r.phase ≡ Idle → h.0 ≤ 3 → Turned msg (suc k))
  unfolding MessagesExact MalformedExact ReadKindExact
  turned h msg reply = go (p.table img r (request h msg reply) by)
    where
      -- of another kind it gets 11
      kind : (r.phase ≡ Unmounted → ⊥) → ((ReadKind msg → ⊥) × ((x : Journal) → Fresh M img r x → ⊥) → ⊥) → ReadKind msg
      kind q g =
          on_test (of_read_kind msg) (read-kind-exact msg).0
          (λ t. absurd (g (λ k. clash (of_read_kind msg) ((read-kind-exact msg).1 k) t, λ x y. d q y.blocks_are)))

      lost : (r.phase ≡ Unmounted → ⊥) → ReadKind msg → (((s : Request) → Means msg s → ⊥) → ⊥) → (PlaceLost (asking M img r h msg reply) → ⊥)
          → (s : Parsed) → parse msg ≡ s → ⊥
      lost q k f g None e = f ((malformed-exact msg).0 e)
      lost q k f g (Some s) e =
          let w : Means msg s = (messages_exact msg s).0 e in
          g (record { id = id_in msg; is_asked = subst (Means msg) (read_asked msg s w k) w; misfits = inr (inl (d q)) })

      go : Exactly (request_lines (asking M img r h msg reply)) (m img r (request h msg reply)).answer
          → (k : ℕ) × (number_of (m img r (request h msg reply)).answer ≡ some (suc k)) × (r.phase ≡ Idle → h.0 ≤ 3 → Turned msg (suc k))
      go (inl (_, e)) = (3, e, λ i l. inl refl)
      go (inr (_, inl (g, e))) = (9, e, λ i l. absurd (omega arith))
      go (inr (_, inr (_, inl (j, e)))) = (4, e, λ i l. absurd (subst InJob i j))
      go (inr (_, inr (_, inr (_, inl (q, e))))) = (1, e, λ i l. absurd (idle-mounted i q))
      go (inr (_, inr (_, inr (_, inr (_, inl (_, e)))))) = (10, e, λ i l. inr (inl refl))
      go (inr (_, inr (_, inr (_, inr (q, inr (g, inl (f, e))))))) = (0, e, λ i l. inr (inr (refl, (kind q g, f))))
      go (inr (_, inr (_, inr (_, inr (_, inr (_, inr (_, inl (_, e)))))))) = (10, e, λ i l. inr (inl refl))
      go (inr (_, inr (_, inr (_, inr (q, inr (g, inr (f, inr (w, _)))))))) = absurd (lost q (kind q g) f w (parse msg) refl)

  stale : InJob r.phase → m img r step ≡ out (Refused refusal.Stale) img r []
  stale j = p.untouched img r step refusal.Stale (go r.phase refl j (p.table img r step by))
    where
      go : (q : Phase) → r.phase ≡ q → InJob q → Exactly (lines_of M img r step) (m img r step).answer → (m img r step).answer ≡ Refused refusal.Stale
      go Unmounted e k t = absurd k
      go Idle e k t = absurd k
      go (Busy s) e k (inl (_, n)) = number-refused (m img r step).answer refusal.Stale 11 refl (omega arith) n
      go (Busy s) e k (inr (g, _)) = absurd (g (record { stage = s; is-busy = e; misfits = inr (inl (d (λ q. subst InJob q j))) }))

  apart : Apart m img r
  apart =
      record {
        in_job = stale;
        at_rest = p.rests img r;
        refused = λ h msg reply.
            let y = turned h msg reply in
            let n = refusal-of (m img r (request h msg reply)).answer y.0 y.1 in
            (n.0, p.untouched img r (request h msg reply) n.0 n.1);
        number = λ h msg reply i l. number h msg reply ((turned h msg reply).2 i l);
      }
    where
      number : (h : Host) (msg reply : List ℕ) → Turned msg (suc (turned h msg reply).0)
          → (number_of (m img r (request h msg reply)).answer ≡ some 4) ⊎ ((number_of (m img r (request h msg reply)).answer ≡ some 11)
          ⊎ ((number_of (m img r (request h msg reply)).answer ≡ some 1) × MalformedRead msg))
      number h msg reply (inl e) = inl ((turned h msg reply).1 ∙ ap some e)
      number h msg reply (inr (inl e)) = inr (inl ((turned h msg reply).1 ∙ ap some e))
      number h msg reply (inr (inr (e, w))) = inr (inr ((turned h msg reply).1 ∙ ap some e, w))

-- ---- of every store that keeps the promise

pub other-counts : OtherCounts
unfolding OtherCounts Claim
other-counts m kept N M n img r by ok =
    let f : Upheld N (m N) (formatted N (m N) img r).image (formatted N (m N) img r).board first_book =
    (tracked false false, format, ((kept N).claim img r by ok).3) in (
      at [] tt f,
      λ es c h. at (es ++ (call c ∷ [])) h
          (upheld_after N (m N) (formatted N (m N) img r).image (formatted N (m N) img r).board first_book f es c h),
    )
  where
    at : (es : List Event) → HappensFrom N (m N) img r es
        → (let x : Left = left_by_of N (m N) img r es in Upheld N (m N) x.image x.board x.book → Apart (m M) x.image x.board)
    at es h f =
        let x : Left = left_by_of N (m N) img r es in
        let bytes : Bytes x.image = (left_by (kept N).calls img r by es h).bytes in
        apart (kept M).calls x.image x.board bytes
        (λ q e. n (e ∙ sym (counted (kept N).calls x.image x.board x.book bytes f q)))
