-- Row a's header, row k's room, a commit beside another host's changes and a half-erased valid half, computed.
use mathlib.Core.Path.{refl}
use Rattle.flash.specs.Bytes.{all_ff, same_bytes_of}
use Rattle.flash.specs.Flash.{writes, write_all}
use Rattle.flash.proofs.Raising.{raises-raised}
use Rattle.frame.specs.declared.Edition.TheVariants as edition
use Rattle.frame.specs.Frame.{encode_all, total}
use Rattle.frame.specs.Reader.{match, host_layout, layout_of, read_frame, scan}
use Rattle.journal.specs.Replay.{insert, remove, lookup, change_all, list_of, without, is_open_of, replay_from}
use Rattle.journal.specs.Block.{valid_data, header, edition_in, header_fault, block_state}
use Rattle.journal.specs.Room.{no_room_of}
use Rattle.journal.specs.Examples.{three, Examples}

pub examples : Examples
unfolding three writes write_all encode_all total insert remove lookup change_all list_of without is_open_of replay_from no_room_of
    all_ff same_bytes_of match host_layout layout_of read_frame scan edition_in header_fault block_state
examples =
    record {
      row-a = refl;
      row_k_claimed = refl;
      row_k_refused = refl;
      row_k_accepted = refl;
      one_commit = refl;
      mount_drops = refl;
      half-erased = raises-raised (header edition.First 3 valid_data) (header edition.First 2 valid_data) refl;
      was_valid = refl;
      reads_valid = refl;
    }
