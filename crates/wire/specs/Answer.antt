-- Answers and document 01's number for each, "When the queue says no".
use Rattle.std.proofs.Math.Option.{Option, none, some}
use Rattle.std.specs.Prelude.{ℕ}
use Rattle.frame.specs.declared.Field.{Field}
use Rattle.frame.specs.declared.Field.TheVariants as field
use Rattle.wire.specs.declared.Spot.{Spot}
use Rattle.wire.specs.declared.Refusal.{Refusal}
use Rattle.wire.specs.declared.Refusal.TheVariants as refusal
use Rattle.wire.specs.declared.Answer.{Answer}
use Rattle.wire.specs.declared.Answer.TheVariants.{Done, More, Refused}

-- the table's numbers, each with what it is given for
abbrev pub refusal_number : Refusal → ℕ
refusal_number refusal.Malformed = 1  -- message malformed: length, kind, id, value length or page
refusal_number refusal.NoStore = 2  -- unmounted record; for mount, no valid half and none foreign
refusal_number (refusal.Foreign k e) = 3  -- mount only: a foreign half, or two valid halves of equal time
refusal_number refusal.ImageLength = 4  -- image length not allowed
refusal_number refusal.Busy = 5  -- a job is unfinished
refusal_number refusal.Worn = 6  -- a transfer is needed, by a mount too, at time 4,294,967,295
refusal_number refusal.NoRoom = 7  -- the room rule
refusal_number refusal.NoObject = 8  -- read: no such settled object
refusal_number refusal.ShortReply = 9  -- log: reply under 14 bytes
refusal_number refusal.HostRange = 10  -- host above 3
refusal_number refusal.Stale = 11  -- the record does not fit the image
refusal_number refusal.HostFull = 12  -- document 02, K7: a host's pending frames would come to more than S/2 bytes
refusal_number refusal.Pending = 16  -- document 02, K9: convert, and something is pending

-- "Done is 0; an unfinished step says more": more has no number
abbrev pub number_of : Answer → Option ℕ
number_of Done = some 0
number_of More = none
number_of (Refused r) = some (refusal_number r)

-- "more" has no number in the paper; it is 255 at the edge to C
abbrev pub edge_number : Answer → ℕ
edge_number Done = 0
edge_number More = 255
edge_number (Refused r) = refusal_number r

-- 0 for an answer that refuses nothing
abbrev pub refused_number : Answer → ℕ
refused_number Done = 0
refused_number More = 0
refused_number (Refused r) = refusal_number r

-- ---- what 3 names, in numbers for C

-- a number for each field; 0 is none
abbrev pub field_number : Field → ℕ
field_number field.Length = 1
field_number field.Kind = 2
field_number field.Host = 3
field_number field.Id = 4
field_number field.Finish = 5
field_number field.Created = 6
field_number field.State = 7
field_number field.Spare = 8
field_number field.Crc = 9

abbrev pub spot : ℕ → ℕ → ℕ → Spot
spot k f p = record { half = k; field = f; place = p }

-- "an answer that names the foreign half (0 first) and, within it, the fault and its place" (document 02, K5); any other names nothing
abbrev pub refusal_spot : Refusal → Spot
refusal_spot refusal.Malformed = spot 0 0 0
refusal_spot refusal.NoStore = spot 0 0 0
refusal_spot (refusal.Foreign k e) = spot k (field_number e.field) e.place
refusal_spot refusal.ImageLength = spot 0 0 0
refusal_spot refusal.Busy = spot 0 0 0
refusal_spot refusal.Worn = spot 0 0 0
refusal_spot refusal.NoRoom = spot 0 0 0
refusal_spot refusal.NoObject = spot 0 0 0
refusal_spot refusal.ShortReply = spot 0 0 0
refusal_spot refusal.HostRange = spot 0 0 0
refusal_spot refusal.Stale = spot 0 0 0
refusal_spot refusal.HostFull = spot 0 0 0
refusal_spot refusal.Pending = spot 0 0 0

abbrev pub spot_of : Answer → Spot
spot_of Done = spot 0 0 0
spot_of More = spot 0 0 0
spot_of (Refused r) = refusal_spot r
