-- Demand 3: every run from a finished format agrees with the book, and the store stays available.
use mathlib.Core.Path.{◌≡◌, refl, sym, ap, subst, ◌∙◌, subst₂}
use mathlib.Core.List.{List, [], ◌∷◌}
use mathlib.Core.Logic.{◌⊎◌, inl, inr}
use mathlib.Core.Bool.{true, false}
use Prim.Native.Nat.{ℕ, ◌+◌, ◌≤◌, ◌/◌}
use native.Mathlib.Omega.{arith}
use lib.ListN.{length, get_or}
use Rattle.frame.specs.declared.Edition.{Edition}
use Rattle.frame.specs.declared.Edition.TheVariants as edition
use Rattle.flash.specs.Bytes.{Bytes}
use Rattle.flash.specs.Flash.{apply_all, block, size_of, with_block}
use Rattle.frame.specs.Frame.{total, Change}
use Rattle.journal.specs.Replay.{Object, State, state, list_of, settled_only}
use Rattle.journal.specs.Block.{block_state}
use Rattle.journal.proofs.Room.{kept-none, used-claimed}
use Rattle.journal.proofs.States.{contents-valid}
use Rattle.journal.specs.Laws.{changes_bytes, PlacesAre}
use Rattle.journal.proofs.ReplayLaws.{changes-total, pending-exact}
use Rattle.wire.specs.declared.Answer.{Answer}
use Rattle.wire.specs.declared.Answer.TheVariants.{Done, More, Refused}
use Rattle.wire.specs.declared.Refusal.{Refusal}
use Rattle.wire.specs.declared.Refusal.TheVariants as refusal
use Rattle.journal.proofs.Sources.{place-exact}
use Rattle.board.specs.declared.Phase.{Phase}
use Rattle.board.specs.declared.Phase.TheVariants.{Unmounted, Idle, Busy}
use Rattle.board.specs.declared.Record.{Record}
use Rattle.board.specs.Record.{Out, out, refuse, unmounted, answer_of, allowed}
use Rattle.board.specs.Step.{enter_wipe, begin}
use Rattle.board.specs.Mount.{Store, all_found, wipe_list, upkeep, mount_job, mount_on, format_job, format_on, replay_of, time_of}
use Rattle.board.specs.Exec.{Call, request, step, mount, format, exec}
use Rattle.board.specs.Plan.{format_work, mount_work}
use Rattle.board.specs.Table.{InJob as JobPhase}
use Rattle.board.specs.Book.{Book, book, nothing, formatting, no_lists, first_book, enter_call, enter_format, enter_request}
use Rattle.board.specs.Claim.{IdleAgrees, Finishes, AgreesIn, Agrees, WornOut, MountSays, Says, track_mount, track_format, track, begun_by, Run}
use Rattle.board.specs.Claim.{steps_on, formatted, ByteCall, Begins, Event, call, cut_erase, Happens, Claim, Track, RoomLeft, tracked, tight_left}
use Rattle.board.specs.Claim.{roomy_left, track_request}
use Rattle.board.proofs.Images.{Sized, size-of, sized_of, sized-as, length-all-steps, bytes-all-steps}
use Rattle.board.proofs.Invariant.{Lessers, Safe, GuardIn, IdleBook, InPhase, Inv, Shares, Slack, roomy, tight}
use Rattle.board.proofs.Outcomes.{format-begins}
use Rattle.board.proofs.Current.{After, Keeps, keeps_settled}
use Rattle.board.proofs.Jobs.{Begun, job-starts, job-begins}
use Rattle.board.proofs.Stepping.{follows_steps}
use Rattle.board.proofs.Keeping.{Working, inv_unmounted, inv_idle, inv_busy, ready-idle, step_keeps, Bare, bare_of, cut-bare}
use Rattle.board.proofs.Accepted.{follows-format}
use Rattle.board.proofs.Lengths.{length-format, format-some}
use Rattle.board.proofs.Formatting.{format_safe, format_ends}
use Rattle.board.proofs.Deciding.{Taken, StoreThere, InTime, Outcome, worn_out, begins, mount-outcome, MountSafe, nothing_there, store_there, mount-safe}
use Rattle.board.proofs.Mounting.{in_time-at, mount_performs, mount-keeps, mount_ends}
use Rattle.board.proofs.Requests.{Requested, request_keeps}
use Rattle.board.proofs.Promising.{calls}
use Rattle.board.proofs.Finishing.{Ends, idle-ends, call_ends, restart_ends}
use Rattle.board.proofs.Books.{shares-none}
use Rattle.frame.specs.declared.Fault.{Fault}
use Rattle.board.proofs.Editions.{number_is, spare-is}

-- ---- what the invariant gives between calls

idle_agrees : {N : ℕ} {s : ℕ} {img : List ℕ} {r : Record} {b : Book} (u : Track) → Sized N s img → IdleBook N s u img r b → IdleAgrees N u img r b
idle_agrees {N} {s} {img} {r} {b} u z y =
    record {
      journal = y.ready.journal;
      is-valid = ap (λ (n : ℕ). block_state (block n r.rest.block img)) (size-of z)
          ∙ ap (λ (q : Record). block_state (block s q.rest.block img)) y.ready.is ∙ contents-valid y.ready.contents;
      is_clean = y.ready.is_clean;
      objects = y.objects;
      lists = y.lists;
      shares = λ h k. subst (λ (cs : List Change). changes_bytes ed cs ≤ size_of N img / 2) (y.lists h k)
          (omega (arith, size-of z, y.shares h k, changes-total ed h (list_of h (replay_of y.ready.journal).pending)));
      counts = λ h k. ap (λ (q : Record). get_or q.rest.pending h.0 0) y.ready.is
          ∙ ap (λ (ps : List ℕ). get_or ps h.0 0) y.ready.counts
          ∙ (pending-exact.are ed y.ready.journal.frames).each h k
          ∙ ap (changes_bytes ed) (y.lists h k);
      edition_is = ap (λ (q : Record). q.rest.edition) y.ready.is ∙ y.ready.edition_is ∙ number_is ed;
      places = subst (λ (q : Record). PlacesAre ed q.places y.ready.journal.frames) (sym y.ready.is)
          (place-exact.places_are ed y.ready.journal.frames);
      room = left y.spare;
    }
  where
    ed : Edition
    ed = y.ready.journal.edition

    left : Slack u.tight s y.ready.journal.edition (replay_of y.ready.journal) → RoomLeft u.tight (size_of N img) y.ready.journal
    left (roomy l) =
        roomy_left (λ e.
        let n = kept-none y.ready.journal.edition (replay_of y.ready.journal) e in
        omega (arith, size-of z, l, spare-is y.ready.journal.edition, n))
    left (tight t e p l) =
        tight_left t e p
        (omega (
          arith,
          size-of z,
          used-claimed y.ready.journal.edition (replay_of y.ready.journal),
          y.ready.room,
        )) (omega (arith, size-of z, l))

agrees : {N : ℕ} {s : ℕ} {img : List ℕ} {r : Record} {b : Book} {u : Track} (a : Call) → Inv N s img r b u → Ends N (exec N) a img r
    → Agrees N (exec N) a u img r b
agrees {N} {s} {img} {r} {b} {u} a v d = go r.phase v.phase d
  where
    go : (p : Phase) → InPhase N p s img r b u → (JobPhase p → Finishes N (exec N) a img r) → AgreesIn N (exec N) a u p img r b
    go Unmounted x f = tt
    go Idle y f = idle_agrees u v.sized y
    go (Busy g) j f = f tt

-- ---- a format call

abbrev FormatKeeps : ℕ → ℕ → Book → Track → Out → Type 0
FormatKeeps N s b u o = Inv N s o.image o.board (enter_format b o.answer) (track_format u o.answer) × (o.answer ≡ More)

-- an empty store with an empty book
empty-book : {N : ℕ} {s : ℕ} {img : List ℕ} {r : Record} (u : Track) → 256 ≤ s → After N s edition.First img r (state [] [])
    → IdleBook N s u img r (book [] no_lists nothing)
unfolding total list_of
empty-book {N} {s} {img} {r} u h a =
    let empty : State = state [] [] in
    record {
      ready = a.ready;
      spare = subst₂ (Slack u.tight s) (sym a.edition) (sym a.state) (roomy (omega (arith, kept-none edition.First empty refl)));
      shares = subst₂ (λ (d : Edition) (x : State). Shares s d x.pending) (sym a.edition) (sym a.state) (shares-none s edition.First);
      objects = ap (λ (x : State). x.objects) a.state;
      lists = λ g k. ap (λ (x : State). list_of g x.pending) a.state;
      under = refl;
    }

format_works : {N : ℕ} {s : ℕ} {img : List ℕ} (os : List Object) {u : Track} → Sized N s img → Safe N s img os u
    → (answer_of (enter_wipe (format_job N img)) ≡ More) × Working N s img (enter_wipe (format_job N img)) (book os no_lists formatting) (tracked true u.tight)
format_works {N} {s} {img} os {u} z f =
    let a : After N s edition.First (apply_all s (format_work N img).steps img) (format_work N img).last (state [] []) = format_ends z in
    job-starts img (enter_wipe (format_job N img)) (format_work N img).steps (format_work N img).last (follows-format N img z.ok)
    (omega (arith, length-format N img)) (λ j h. (format_safe z f j h, λ n. absurd (n refl))) (empty-book (tracked false false) z.low a)
    (ready-idle a.ready)

format-call : {N : ℕ} {s : ℕ} {img : List ℕ} (b : Book) {u : Track} → Bare N s img b.objects u → FormatKeeps N s b u (format_on N img)
format-call {N} {s} {img} b {u} v =
    let w : (answer_of (enter_wipe (format_job N img)) ≡ More)
    × Working N s img (enter_wipe (format_job N img)) (book b.objects no_lists formatting) (tracked true u.tight) =
    format_works b.objects v.sized v.safe in
    subst (FormatKeeps N s b u) (sym (format-begins N img v.sized.ok)) (
      subst (λ (a : Answer). Inv N s img (enter_wipe (format_job N img)) (enter_format b a) (track_format u a)) (sym w.0)
          (inv_busy (enter_wipe (format_job N img)) v.sized v.bytes w.0 w.1),
      w.0,
    )

-- ---- a mount call

abbrev MountKeeps : ℕ → ℕ → List ℕ → Book → Track → Out → Type 0
MountKeeps N s img b u o = Inv N s o.image o.board (book b.objects no_lists nothing) (track_mount u o.answer) × MountSays N img u o

-- a refused mount
turned_down : {N : ℕ} {s : ℕ} {img : List ℕ} (b : Book) {u : Track} (n : Refusal) → Bare N s img b.objects u
    → ((k : ℕ) (f : Fault) → Refused n ≡ Refused (refusal.Foreign k f) → ⊥) → (Refused n ≡ Refused refusal.ImageLength → ⊥)
    → (Refused n ≡ Refused refusal.NoStore → u.unfinished ≡ true) → (Refused n ≡ Refused refusal.Worn → WornOut N img)
    → MountKeeps N s img b u (refuse n img unmounted [])
turned_down b n v a c d e = (
  inv_unmounted unmounted v.sized v.bytes refl v.safe refl,
  record { never_foreign = a; never_length = c; no_store = d; worn = e },
)

-- the settled objects alone, in a book with no lists
settled-book : {N : ℕ} {s : ℕ} {ed : Edition} {img : List ℕ} {r : Record} {st : State} {os : List Object} (u : Track) → Keeps u.tight s ed st os
    → After N s ed img r (settled_only st) → IdleBook N s u img r (book os no_lists nothing)
unfolding list_of
settled-book {N} {s} {ed} {img} {r} {st} {os} u k a =
    record {
      ready = a.ready;
      spare = subst₂ (Slack u.tight s) (sym a.edition) (sym a.state) (keeps_settled k).room;
      shares = subst₂ (λ (d : Edition) (x : State). Shares s d x.pending) (sym a.edition) (sym a.state) (shares-none s ed);
      objects = ap (λ (x : State). x.objects) a.state ∙ k.same;
      lists = λ g h. ap (λ (x : State). list_of g x.pending) a.state;
      under = refl;
    }

accepted-says : {N : ℕ} {img : List ℕ} {u : Track} (o : Out) → (o.answer ≡ More) ⊎ (o.answer ≡ Done) → MountSays N img u o
accepted-says o (inl e) =
    record {
      never_foreign = λ k f c. (let w : ◌≡◌ {A = ℕ} 0 1 = cc in omega arith);
      never_length = λ c. (let w : ◌≡◌ {A = ℕ} 0 1 = cc in omega arith);
      no_store = λ c. (let w : ◌≡◌ {A = ℕ} 0 1 = cc in absurd (omega arith));
      worn = λ c. (let w : ◌≡◌ {A = ℕ} 0 1 = cc in absurd (omega arith));
    }
accepted-says o (inr e) =
    record {
      never_foreign = λ k f c. (let w : ◌≡◌ {A = ℕ} 0 1 = cc in omega arith);
      never_length = λ c. (let w : ◌≡◌ {A = ℕ} 0 1 = cc in omega arith);
      no_store = λ c. (let w : ◌≡◌ {A = ℕ} 0 1 = cc in absurd (omega arith));
      worn = λ c. (let w : ◌≡◌ {A = ℕ} 0 1 = cc in absurd (omega arith));
    }

module _ {N : ℕ} {s : ℕ} {img : List ℕ} (b : Book) {u : Track} (v : Bare N s img b.objects u) where
  mount_begun : (x : Store) → Taken N s img x → StoreThere s img x → Keeps u.tight s x.journal.edition (replay_of x.journal) b.objects
      → Lessers N s img (time_of x) x.number → InTime s x
      → MountKeeps N s img b u (begin img [] (mount_job N img x (wipe_list x.number (all_found N img)) (upkeep (size_of N img) x)))
  mount_begun x y h k f t =
      let g : Record = enter_wipe (mount_job N img x (wipe_list x.number (all_found N img)) (upkeep (size_of N img) x)) in
      let last : Record = (mount_work N img x).last in
      let a : After N s x.journal.edition (apply_all s (mount_work N img x).steps img) last (settled_only (replay_of x.journal)) =
      mount_ends x v.sized v.bytes y.there h t in
      finish g (job-begins img g (mount_work N img x).steps last
      (mount_performs x v.sized v.bytes y.there h)
      (λ n l. let g = mount-keeps x v.sized v.bytes y.there h t (tracked false u.tight) k f n l in (g.0, λ d. g.1))
      (settled-book (tracked false u.tight) k a) (ready-idle a.ready))
    where
      finish : (g : Record) → Begun N s (GuardIn N s b.objects (tracked false u.tight) nothing)
          (λ i q. IdleBook N s (tracked false u.tight) i q (book b.objects no_lists nothing)) img g
          → MountKeeps N s img b u (out (answer_of g) img g [])
      finish g (inl (m, j)) = (
        subst (λ (w : Answer). Inv N s img g (book b.objects no_lists nothing) (track_mount u w)) (sym m) (inv_busy g v.sized v.bytes m j),
        accepted-says (out (answer_of g) img g []) (inl m),
      )
      finish g (inr (d, i)) = (
        subst (λ (w : Answer). Inv N s img g (book b.objects no_lists nothing) (track_mount u w)) (sym d) (inv_idle g v.sized v.bytes i),
        accepted-says (out (answer_of g) img g []) (inr d),
      )

  mount-found : (x : Store) → Taken N s img x → StoreThere s img x → Keeps u.tight s x.journal.edition (replay_of x.journal) b.objects
      → Lessers N s img (time_of x) x.number → Outcome N img x → MountKeeps N s img b u (mount_on N img)
  mount-found x y h k f (worn_out w e) =
      subst (MountKeeps N s img b u) (sym e)
      (turned_down b refusal.Worn v (λ k f c. let w : ◌≡◌ {A = ℕ} 0 1 = cc in omega arith) (λ c. let w : ◌≡◌ {A = ℕ} 0 1 = cc in omega arith)
      (λ c. let w : ◌≡◌ {A = ℕ} 0 1 = cc in absurd (omega arith)) (λ c. w))
  mount-found x y h k f (begins t e) = subst (MountKeeps N s img b u) (sym e) (mount_begun x y h k f (in_time-at x v.sized t))

  mount_call : MountKeeps N s img b u (mount_on N img)
  mount_call = go (mount-safe v.sized v.safe)
    where
      go : MountSafe N s img b.objects u → MountKeeps N s img b u (mount_on N img)
      go (nothing_there e q) =
          subst (MountKeeps N s img b u) (sym q)
          (turned_down b refusal.NoStore v (λ k f c. let w : ◌≡◌ {A = ℕ} 0 1 = cc in omega arith) (λ c. let w : ◌≡◌ {A = ℕ} 0 1 = cc in omega arith) (λ c. e)
          (λ c. let w : ◌≡◌ {A = ℕ} 0 1 = cc in absurd (omega arith)))
      go (store_there x y h k f) = mount-found x y h k f (mount-outcome x v.sized y h)

-- ---- every call, and every run

-- what a call says, and the invariant after it
abbrev CallKeeps : ℕ → ℕ → List ℕ → Record → Book → Track → Call → Type 0
CallKeeps N s img r b u c =
    Says N img r b u c (exec N img r c)
    × Inv N s (exec N img r c).image (exec N img r c).board (enter_call b c (exec N img r c).answer) (track (size_of N img) u b c (exec N img r c).answer)

-- a mount or a format, whatever the record
pub begin_keeps : {N : ℕ} {s : ℕ} {img : List ℕ} (b : Book) {u : Track} → Bare N s img b.objects u → (r : Record) (c : Call) → Begins c
    → CallKeeps N s img r b u c
begin_keeps b v r (request h m reply) n = absurd n
begin_keeps b v r step n = absurd n
begin_keeps b v r mount n = let y = mount_call b v in (y.1, y.0)
begin_keeps b v r format n = let y = format-call b v in (y.1, y.0)

pub call_keeps : {N : ℕ} {s : ℕ} {img : List ℕ} {r : Record} {b : Book} {u : Track} → Inv N s img r b u → (c : Call) → ByteCall c → CallKeeps N s img r b u c
call_keeps {N} {s} {img} {r} {b} {u} v (request h m reply) by =
    let y : Requested N s img r b u h m reply (exec N img r (request h m reply)) = request_keeps v h m reply by in (
      (y.0.1, y.0.2, y.1),
      subst (λ (n : ℕ). Inv N s (exec N img r (request h m reply)).image (exec N img r (request h m reply)).board
          (enter_request b h m (exec N img r (request h m reply)).answer) (track_request n u b m (exec N img r (request h m reply)).answer))
          (sym (size-of v.sized)) y.0.0,
    )
call_keeps v step by = let y = step_keeps v in (y.1, y.0)
call_keeps {N} {r = r} {b = b} v mount by = begin_keeps b (bare_of v) r mount tt
call_keeps {N} {r = r} {b = b} v format by = begin_keeps b (bare_of v) r format tt

pub run_holds : {N : ℕ} {s : ℕ} {img : List ℕ} {r : Record} {b : Book} {u : Track} (a : Call) → Inv N s img r b u → Ends N (exec N) a img r → (es : List Event)
    → Happens N (exec N) img r b es → Run N (exec N) img r b u a es
run_holds a v d [] h = tt
run_holds {N} {img = img} {r = r} a v d (call c ∷ es) (by, h) =
    let y = call_keeps v c by in
    let e = call_ends calls img v.bytes a r d c by in
    let a' : Call = begun_by a c (exec N img r c).answer in (y.0, agrees a' y.1 e, run_holds {img = (exec N img r c).image} {r = (exec N img r c).board} a' y.1 e es h)
run_holds a v d (cut_erase k new q ∷ []) (x, n, h) = tt
run_holds {N} {img = img} {b = b} a v d (cut_erase k new q ∷ call c ∷ es) (x, n, (by, h)) =
    let i : List ℕ = with_block (size_of N img) k new img in
    let w = cut-bare k new v x in
    let y = begin_keeps b w q c n in
    let e = restart_ends calls i w.bytes a q c n in
    let a' : Call = begun_by a c (exec N i q c).answer in (y.0, agrees a' y.1 e, run_holds {img = (exec N i q c).image} {r = (exec N i q c).board} a' y.1 e es h)
run_holds a v d (cut_erase k new q ∷ cut_erase j more p ∷ es) (x, n, h) = absurd n

-- ---- from a finished format on

pub format-done : {N : ℕ} {s : ℕ} {img : List ℕ} (r : Record) → Sized N s img
    → formatted N (exec N) img r ≡ out Done (apply_all s (format_work N img).steps img) (format_work N img).last []
format-done {N} {s} {img} r z =
    let first = format-some N img in
    ap (steps_on (exec N) (N + 10)) (format-begins N img z.ok)
    ∙ ap (λ (n : ℕ). steps_on (exec N) n (begin img [] (format_job N img))) (sym (length-format N img))
    ∙ follows_steps N (exec N) (format_work N img).steps first.0 first.1 first.2 s (begin img [] (format_job N img))
    (format_work N img).last (size-of z)
    (follows-format N img z.ok)

-- the invariant after a finished format
pub formatted_inv : {N : ℕ} (img : List ℕ) (r : Record) → Bytes img → allowed N (length img) ≡ true
    → Inv N (size_of N img) (formatted N (exec N) img r).image (formatted N (exec N) img r).board first_book (tracked false false)
formatted_inv {N} img r by ok =
    let z : Sized N (size_of N img) img = sized_of N img ok in
    let i : List ℕ = apply_all (size_of N img) (format_work N img).steps img in
    subst (λ (o : Out). Inv N (size_of N img) o.image o.board first_book (tracked false false)) (sym (format-done r z))
    (inv_idle (format_work N img).last (sized-as i (length-all-steps (size_of N img) (format_work N img).steps img) z)
    (bytes-all-steps (size_of N img) (format_work N img).steps img by) (empty-book (tracked false false) z.low (format_ends z)))

pub claim : (N : ℕ) → Claim N (exec N)
unfolding Claim
claim N img r by ok =
    let e : formatted N (exec N) img r ≡ out Done (apply_all (size_of N img) (format_work N img).steps img) (format_work N img).last [] =
    format-done r (sized_of N img ok) in
    let v : Inv N (size_of N img) (formatted N (exec N) img r).image (formatted N (exec N) img r).board first_book (tracked false false) =
    formatted_inv img r by ok in
    let i : (formatted N (exec N) img r).board.phase ≡ Idle = ap (λ (o : Out). o.board.phase) e in
    (ap (λ (o : Out). o.answer) e, i, agrees format v (idle-ends i), run_holds format v (idle-ends i))
