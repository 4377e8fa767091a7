-- A body comes as a change of what heads show.
use Rattle.std.specs.Prelude.{ℕ, Bool, ◌==◌, ◌&&◌, nat_lt, if◌then◌else◌, [], Option, None, Some}
use Rattle.pg_base.specs.Version.{VersionValue}
use Rattle.pg_content.specs.Content.{ContentValue, next_length}
use Rattle.pg_delta.specs.Chain.{are_same_stamps}
use Rattle.pg_delta.specs.Taking.{delta_to, patched_version, stamps_of}
use Rattle.pg_announced.specs.declared.announced.Announced.{Announced}
use Rattle.pg_announced.specs.Announced.{change_note, emptied, is_asked_of, key_at}
use Rattle.pg_pieces.specs.pg_msg.declared.message.Delta.{Delta}
use Rattle.pg_pieces.specs.pg_msg.declared.message.Ends.{Ends}
use Rattle.pg_pieces.specs.pg_msg.declared.work.Work.{Work}
use Rattle.pg_pieces.specs.pg_names.Names.{is_dir}
use Rattle.pg_pieces.specs.pg_replica.declared.replica.Replica.{Replica}
use Rattle.pg_pieces.specs.pg_store.declared.store.Store.{Store}
use Rattle.pg_pieces.specs.pg_store.Store.{keep_delta, replica_at}
use Rattle.pg_pieces.specs.declared.accepting.EdgeUse.TheVariants as manner
use Rattle.pg_pieces.specs.Accepting.{accept, is_accepted}
use Rattle.pg_pieces.specs.Done.{Done, idle}
use Rattle.pg_transfer.specs.Asking.{ask, noted, with_notes}
use Rattle.pg_transfer.specs.Taking.{taken_for}

-- it starts from just the heads, and makes a body of the announced length. No version of a run has
-- the number 0
abbrev pub serves : ContentValue → Announced → Delta → Bool
serves c n d = are_same_stamps (stamps_of c) d.from
    && ((next_length c d.ranges == n.head.length) && nat_lt 0 n.head.number)

-- the version that it makes, with the tag under which that was announced
abbrev pub made_of : ContentValue → Announced → Delta → Option (VersionValue × ℕ)
made_of c n d = if serves c n d then Some (patched_version c n.head d.ranges, n.tag) else None

abbrev pub made_at : Option Replica → Announced → Delta → Option (VersionValue × ℕ)
made_at None n d = None
made_at (Some x) n d = made_of x.content n d

-- the same, where its sender is asked for it
abbrev pub made_by : ℕ → Option Replica → Option Announced → Delta → Option (VersionValue × ℕ)
made_by from x None d = None
made_by from x (Some n) d = if n.source == from then made_at x n d else None

-- it is kept, and the version is taken
abbrev pub patched : VersionValue × ℕ → Store → Ends → Delta → Work → Done
patched v store ends d work = taken_for ends v.1
    (keep_delta store ends.file (delta_to d.from v.0.head.stamp d.ranges)) v.0 work

-- else the body is asked for from the first byte on, where its sender is asked for it
abbrev pub refused : Bool → Store → Ends → Delta → Work → Done
refused asked store ends d work = if asked then record {
  store = with_notes store
      (change_note emptied store.announced (key_at ends.file d.head.stamp));
  work = ask store ends d.head.stamp 0 [] work;
} else idle store work

abbrev pub changed_by : Option (VersionValue × ℕ) → Bool → Store → Ends → Delta → Work → Done
changed_by None asked store ends d work = refused asked store ends d work
changed_by (Some v) asked store ends d work = patched v store ends d work

abbrev pub changed : Store → Ends → Delta → Work → Done
changed store ends d work = changed_by
    (made_by work.from (replica_at store ends.file) (noted store ends.file d.head.stamp) d)
    (is_asked_of work.from (noted store ends.file d.head.stamp)) store ends d work

-- where the message is accepted
abbrev pub changed_along : Bool → Ends → Delta → Done → Done
changed_along accepted ends d done =
    if accepted then changed done.store ends d done.work else done

abbrev pub delta : Store → Ends → Delta → Work → Done
delta store ends d work =
    if is_dir ends.file then idle store work
    else changed_along (is_accepted store work.from manner.Answers ends) ends d
    (accept store ends manner.Answers work)
