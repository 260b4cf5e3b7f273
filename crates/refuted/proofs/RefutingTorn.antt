-- Demand 3 sees K11: a torn commit that reads as whole while it is closed, one that is closed with no reset after it, a frame that a cut in its closing
-- leaves unreadable. And a mount whose record's end stays before the closed frame leaves a store that can't be used.
use mathlib.Core.Path.{◌≡◌, refl, sym, ap, subst, ◌∙◌}
use mathlib.Core.List.{List, [], ◌∷◌, ◌++◌, map}
use mathlib.Core.Option.{some}
use mathlib.Core.Bool.{true, false}
use Prim.Native.Nat.{ℕ}
use native.Mathlib.Omega.{arith}
use lib.ListN.{length, set}
use Rattle.flash.specs.Bytes.{all_ff, same_bytes_of}
use Rattle.flash.specs.Flash.{numbers_from, size_in, apply_all, writes, block, size_of}
use Rattle.frame.specs.declared.Edition.TheVariants as edition
use Rattle.frame.specs.declared.Field.TheVariants as field
use Rattle.frame.specs.Frame.{host_of, id_of, Change, put, Frame, change, commit, closed, encode_all, total}
use Rattle.frame.specs.Reader.{clean, host_layout, layout_of, match, read_frame, scan, fault}
use Rattle.journal.specs.Replay.{Object, object, insert, remove, lookup, change_all, list_of, without, is_open_of, replay_from}
use Rattle.journal.specs.Block.{Journal, journal, valid, edition_in, header_fault, block_state, changing}
use Rattle.journal.specs.Room.{no_room_of, host_full}
use Rattle.journal.specs.Index.{sited, places_from, since_from, value_at, next_settled, next_pending, next_load_of}
use Rattle.wire.specs.declared.Answer.TheVariants.{Refused}
use Rattle.wire.specs.declared.Refusal.TheVariants as refusal
use Rattle.wire.specs.Answer.{number_of}
use Rattle.wire.specs.Message.{parse}
use Rattle.board.specs.declared.Record.{Record}
use Rattle.board.specs.Record.{allowed, unmounted, rest, counting, idle, Out, no_places, no_frame}
use Rattle.board.specs.Step.{enter_append, enter_drop, enter_copy, enter_open, enter_close, enter_wipe, advance, step_busy, step_on}
use Rattle.board.specs.Mount.{mount_at, mount_found, mount_on, format_order, format_on, replay_of}
use Rattle.board.specs.Queue.{fits_record, held, append, serve_change, serve_end, serve, request_on, read_at, read_place}
use Rattle.board.specs.Exec.{Call, step, mount, format, Machine}
use Rattle.board.specs.Book.{Book, book, nothing, no_lists, first_book}
use Rattle.board.specs.Claim.{ByteCall, call, Run, Track, tracked, track, Agrees, begun_by, formatted, Claim}
use Rattle.board.specs.CutFormat.{Left, after_all}
use Rattle.board.specs.Demand2.{UsableFrom}
use Rattle.board.specs.Promise.{ByteEvents}
use Rattle.refuted.specs.Wrong.{off_bench}
use Rattle.refuted.specs.WrongMends.{finish_first, closes_alone, high_first, end_stays_of}
use Rattle.refuted.specs.WrongRuns.{all_bytes, half, blank_half, stepping, put_empty, commits}
use Rattle.refuted.specs.MendRuns.{torn_put}
use Rattle.board.proofs.Erasing.{same-valid}
use Rattle.board.proofs.Runs.{run_rest}
use Rattle.refuted.proofs.Refuting.{bytes-all, bytes_in_lem}
use Rattle.refuted.proofs.RefutingCut.{calls-then, img, empty, claimed-of}

-- what some calls leave, from a finished format on
abbrev pub left_by_of : Machine → List Call → Left
left_by_of m cs = after_all 2 m empty.image empty.board first_book (map call cs)

-- and after one more the record agrees with the book
pub agrees_after : {l : Left} (m : Machine) → Claim 2 m → formatted 2 m img unmounted ≡ empty → (cs : List Call) → ByteEvents (map call cs) → (c : Call)
    → ByteCall c → after_all 2 m (left_by_of m cs).image (left_by_of m cs).board (left_by_of m cs).book (call c ∷ []) ≡ l
    → (a : Call) × (u : Track) × Agrees 2 m a u l.image l.board l.book
agrees_after {l} m p f cs bs c bc e =
    let run : Run 2 m empty.image empty.board first_book (tracked false false) format (map call cs ++ (call c ∷ [])) =
    claimed-of m p f (map call cs ++ (call c ∷ []))
    (calls-then m cs empty.image empty.board first_book bs (call c ∷ []) (bc, tt)) in
    let x = run_rest 2 m empty.image empty.board first_book (tracked false false) format (map call cs) (call c ∷ []) run in
    let y : Left = left_by_of m cs in
    let o : Out = m y.image y.board c in
    let a : Call = begun_by x.1 c o.answer in
    let u : Track = track (size_of 2 y.image) x.0 y.book c o.answer in
    (a, u, subst (λ (z : Left). Agrees 2 m a u z.image z.board z.book) e x.2.1)

-- an empty value is put to id 7, and its commit is cut after five bytes
abbrev changed : Change
changed = put (id_of 7) []

abbrev torn : List Call → List Call
torn cs = put_empty 7 ∷ stepping 8 (commits ∷ stepping 5 cs)

abbrev put_then : List Frame → List ℕ
put_then fs = half 1 (change (host_of 2) changed ∷ fs) ++ blank_half

-- ---- the finish byte first: power is lost in the closing, and the commit is whole

abbrev hasty : Machine
hasty = off_bench finish_first 2

-- a mount, cut after the closing's first step
abbrev cutting : List Call
cutting = torn (mount ∷ step ∷ [])

-- the mount after it finds nothing to mend
abbrev whole : List Object → Left
whole os = record { image = put_then (commit (host_of 2) ∷ []); board = idle (set no_places 7 16) (rest 2 767 0 30 1); book = book os no_lists nothing }

record Hasty : Type 0 where
  formatted_is : formatted 2 hasty img unmounted ≡ empty
  image_is : (left_by_of hasty cutting).image ≡ put_then (commit (host_of 2) ∷ [])
  objects_are : (left_by_of hasty cutting).book.objects ≡ []
  mounts_as : (r : Record) (b : Book) → after_all 2 hasty (put_then (commit (host_of 2) ∷ [])) r b (call mount ∷ []) ≡ whole b.objects
  reads_as : block_state (block (size_of 2 (whole []).image) 0 (whole []).image)
      ≡ valid (journal edition.First 1 (change (host_of 2) changed ∷ commit (host_of 2) ∷ []) clean)

hasty-done : Hasty
unfolding finish_first numbers_from size_in allowed all_ff same_bytes_of apply_all writes encode_all total host_layout layout_of match read_frame scan insert remove lookup
    change_all list_of without is_open_of replay_from edition_in header_fault block_state changing no_room_of host_full sited places_from since_from value_at next_settled
    next_pending next_load_of parse no_places no_frame enter_append enter_drop enter_copy enter_open enter_close enter_wipe advance step_busy step_on mount_at mount_found
    mount_on format_order format_on fits_record held append serve_change serve_end serve read_at read_place request_on half blank_half
hasty-done = record { formatted_is = refl; image_is = refl; objects_are = refl; mounts_as = λ r b. refl; reads_as = refl }

whole_is : after_all 2 hasty (left_by_of hasty cutting).image (left_by_of hasty cutting).board (left_by_of hasty cutting).book (call mount ∷ []) ≡ whole []
whole_is =
    ap (λ (i : List ℕ). after_all 2 hasty i (left_by_of hasty cutting).board (left_by_of hasty cutting).book (call mount ∷ [])) hasty-done.image_is
    ∙ hasty-done.mounts_as (left_by_of hasty cutting).board (left_by_of hasty cutting).book ∙ ap whole hasty-done.objects_are

pub finish-first : Claim 2 hasty → ⊥
unfolding replay_from change_all list_of without insert
finish-first p =
    let y = (agrees_after hasty p hasty-done.formatted_is cutting (bytes_in_lem cutting refl) mount tt whole_is).2 in
    let v : y.journal ≡ journal edition.First 1 (change (host_of 2) changed ∷ commit (host_of 2) ∷ []) clean =
    same-valid (sym y.is-valid ∙ hasty-done.reads_as) in
    let w : ◌≡◌ {A = List Object} (object (id_of 7) [] ∷ []) [] = ap (λ (x : Journal). (replay_of x).objects) (sym v) ∙ y.objects in
    let n : ◌≡◌ {A = ℕ} 1 0 = ap (λ (l : List Object). length l) w in omega arith

-- ---- no reset: the put is still pending after the mount

abbrev lazy : Machine
lazy = off_bench closes_alone 2

abbrev still : Left
still =
    record {
      image = put_then (closed (2 ∷ []) ∷ []);
      board = idle no_places (counting (rest 2 767 0 30 1) (0 ∷ 0 ∷ 8 ∷ 0 ∷ []));
      book = book [] no_lists nothing;
    }

record Lazy : Type 0 where
  formatted_is : formatted 2 lazy img unmounted ≡ empty
  still_is : after_all 2 lazy (left_by_of lazy cutting).image (left_by_of lazy cutting).board (left_by_of lazy cutting).book (call step ∷ []) ≡ still
  reads_as : block_state (block (size_of 2 still.image) 0 still.image)
      ≡ valid (journal edition.First 1 (change (host_of 2) changed ∷ closed (2 ∷ []) ∷ []) clean)

lazy-done : Lazy
unfolding closes_alone numbers_from size_in allowed all_ff same_bytes_of apply_all writes encode_all total host_layout layout_of match read_frame scan insert remove lookup
    change_all list_of without is_open_of replay_from edition_in header_fault block_state changing no_room_of host_full sited places_from since_from value_at next_settled
    next_pending next_load_of parse no_places no_frame enter_append enter_drop enter_copy enter_open enter_close enter_wipe advance step_busy step_on mount_at mount_found
    mount_on format_order format_on fits_record held append serve_change serve_end serve read_at read_place request_on half blank_half
lazy-done = record { formatted_is = refl; still_is = refl; reads_as = refl }

pub closes-alone : Claim 2 lazy → ⊥
unfolding replay_from list_of
closes-alone p =
    let y = (agrees_after lazy p lazy-done.formatted_is cutting (bytes_in_lem cutting refl) step tt lazy-done.still_is).2 in
    let v : y.journal ≡ journal edition.First 1 (change (host_of 2) changed ∷ closed (2 ∷ []) ∷ []) clean =
    same-valid (sym y.is-valid ∙ lazy-done.reads_as) in
    let w : ◌≡◌ {A = List Change} (changed ∷ []) [] =
    ap (λ (x : Journal). list_of (host_of 2) (replay_of x).pending) (sym v) ∙ y.lists (host_of 2) (omega arith) in
    let n : ◌≡◌ {A = ℕ} 1 0 = ap (λ (l : List Change). length l) w in omega arith

-- ---- the kind's high byte first: power is lost between the two

abbrev turned : Machine
turned = off_bench high_first 2

-- a put is cut after its first byte, the closing after its second
abbrev closing : List Call
closing = put_empty 7 ∷ step ∷ mount ∷ stepping 2 []

record Turned : Type 0 where
  formatted_is : formatted 2 turned img unmounted ≡ empty
  refused : (turned (left_by_of turned closing).image (left_by_of turned closing).board mount).answer ≡ Refused (refusal.Foreign 0 (fault field.Kind 18))

turned-done : Turned
unfolding high_first numbers_from size_in allowed all_ff same_bytes_of apply_all writes encode_all total host_layout layout_of match read_frame scan insert remove lookup
    change_all list_of without is_open_of replay_from edition_in header_fault block_state changing no_room_of host_full sited places_from since_from value_at next_settled
    next_pending next_load_of parse no_places no_frame enter_append enter_drop enter_copy enter_open enter_close enter_wipe advance step_busy step_on mount_at mount_found
    mount_on format_order format_on fits_record held append serve_change serve read_at read_place request_on half blank_half
turned-done = record { formatted_is = refl; refused = refl }

pub high-first : Claim 2 turned → ⊥
high-first p =
    let run : Run 2 turned empty.image empty.board first_book (tracked false false) format (map call closing ++ (call mount ∷ [])) =
    claimed-of turned p turned-done.formatted_is (map call closing ++ (call mount ∷ []))
    (calls-then turned closing empty.image empty.board first_book (bytes_in_lem closing refl) (call mount ∷ []) (tt, tt)) in
    let x = run_rest 2 turned empty.image empty.board first_book (tracked false false) format (map call closing) (call mount ∷ []) run in
    x.2.0.never_foreign 0 (fault field.Kind 18) turned-done.refused

-- ---- the record's end before the closed frame

abbrev short : Machine
short = off_bench end_stays_of 2

abbrev after : ℕ → List Call → Left
after n cs = after_all 2 short torn_put (short torn_put unmounted mount).board first_book (map call (stepping n cs))

record Short : Type 0 where
  is_bytes : all_bytes torn_put ≡ true
  allowed_length : allowed 2 (length torn_put) ≡ true
  stale : number_of (short (after 4 []).image (after 4 []).board commits).answer ≡ some 11

short-done : Short
unfolding end_stays_of numbers_from size_in allowed all_ff same_bytes_of apply_all writes encode_all total host_layout layout_of match read_frame scan insert remove lookup
    change_all list_of without is_open_of replay_from edition_in header_fault block_state changing no_room_of host_full sited places_from since_from value_at next_settled
    next_pending next_load_of parse no_places no_frame enter_append enter_drop enter_copy enter_open enter_close enter_wipe advance step_busy step_on mount_at mount_found
    mount_on fits_record held append serve_change serve_end serve read_at read_place request_on half blank_half torn_put
short-done = record { is_bytes = refl; allowed_length = refl; stale = refl }

pub end_stays : UsableFrom 2 short → ⊥
end_stays p =
    let y = p.from_mount torn_put unmounted first_book (map call (stepping 4 (commits ∷ []))) (bytes-all torn_put short-done.is_bytes)
    short-done.allowed_length (tt, (tt, (tt, (tt, ((bytes_in_lem (commits ∷ []) refl).0, tt))))) in
    y.1.1.1.1.0 short-done.stale
