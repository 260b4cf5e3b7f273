-- The numbers of include/grommetide.h, one equation for each line of its two tables, in its order and by its names.
use Rattle.std.specs.Prelude.{◌≡◌, ℕ}
use Rattle.frame.specs.declared.Fault.{Fault}
use Rattle.frame.specs.declared.Field.TheVariants as field
use Rattle.wire.specs.declared.Refusal.{Refusal}
use Rattle.wire.specs.declared.Refusal.TheVariants as refusal
use Rattle.wire.specs.declared.Answer.TheVariants.{Done, More, Refused}
use Rattle.wire.specs.Answer.{edge_number, refused_number, field_number}

-- "Answers": document 01's numbers, and 255, which has none there
pub record AnswersExact : Type 0 where
  pub done : edge_number Done ≡ 0
  pub malformed : edge_number (Refused refusal.Malformed) ≡ 1
  pub no_store : edge_number (Refused refusal.NoStore) ≡ 2
  pub foreign : (k : ℕ) (e : Fault) → edge_number (Refused (refusal.Foreign k e)) ≡ 3
  pub image_length : edge_number (Refused refusal.ImageLength) ≡ 4
  pub busy : edge_number (Refused refusal.Busy) ≡ 5
  pub worn : edge_number (Refused refusal.Worn) ≡ 6
  pub no_room : edge_number (Refused refusal.NoRoom) ≡ 7
  pub no_object : edge_number (Refused refusal.NoObject) ≡ 8
  pub short-reply : edge_number (Refused refusal.ShortReply) ≡ 9
  pub host_range : edge_number (Refused refusal.HostRange) ≡ 10
  pub stale : edge_number (Refused refusal.Stale) ≡ 11
  pub host-full : edge_number (Refused refusal.HostFull) ≡ 12
  pub pending : edge_number (Refused refusal.Pending) ≡ 16
  pub more : edge_number More ≡ 255

-- grommetide_fault: "IMAGE_LENGTH, NO_STORE, WORN: so does a mount answer. DONE: a mount is accepted."
pub record RefusedExact : Type 0 where
  pub done : refused_number Done ≡ 0
  pub more : refused_number More ≡ 0
  pub refused : (n : Refusal) → refused_number (Refused n) ≡ edge_number (Refused n)

-- "Fields of a block's header and of a frame, as grommetide_fault names them"
pub record FieldsExact : Type 0 where
  pub length : field_number field.Length ≡ 1
  pub kind : field_number field.Kind ≡ 2
  pub host : field_number field.Host ≡ 3
  pub id : field_number field.Id ≡ 4
  pub finish : field_number field.Finish ≡ 5
  pub time : field_number field.Created ≡ 6
  pub state : field_number field.State ≡ 7
  pub rest : field_number field.Spare ≡ 8
  pub crc : field_number field.Crc ≡ 9
