-- What comes of an event at a server, while it is worked on.
use Rattle.std.specs.Prelude.{ℕ, [], ◌∷◌, ◌++◌}
use Rattle.std.specs.Ordering.{ordering_then}
use Rattle.std.specs.declared.cmp.Ordering.{Ordering}
use Rattle.pg_base.specs.declared.id.FileId.{FileId}
use Rattle.pg_base.specs.Id.{file_cmp}
use Rattle.pg_edges.specs.declared.key.Key.{Key}
use Rattle.pg_intent.specs.declared.key.IntentKey.{IntentKey}
use Rattle.pg_msg.specs.declared.message.Sent.{Sent}
use Rattle.pg_msg.specs.declared.update.Update.{Update}
use Rattle.pg_msg.specs.declared.work.Slot.{Slot}
use Rattle.pg_msg.specs.declared.work.Work.{Work}

-- slots go by directory, and then by child
abbrev pub slot_cmp : Slot → Slot → Ordering
slot_cmp a b = ordering_then (file_cmp a.dir b.dir) (file_cmp a.child b.child)

-- nothing is done yet, at this moment, where a message came from this server
abbrev pub new_work : ℕ → ℕ → Work
new_work now from = record {
  now = now;
  from = from;
  made = [];
  sent = [];
  touched = [];
  linked = [];
  left = [];
  unsure = [];
  begun = [];
  tail = [];
}

-- one update more was made
abbrev pub with_made : Work → Update → Work
with_made work update = record work { made = work.made ++ update ∷ [] }

-- one message more is sent
abbrev pub with_sent : Work → Sent → Work
with_sent work message = record work { sent = work.sent ++ message ∷ [] }

-- one key more was touched
abbrev pub with_touched : Work → FileId → Key → Work
with_touched work file key =
    record work { touched = work.touched ++ record { file = file; key = key } ∷ [] }

-- one edge more was made or replaced: that of the file to the peer
abbrev pub with_linked : Work → FileId → ℕ → Work
with_linked work file peer =
    record work { linked = work.linked ++ record { file = file; peer = peer } ∷ [] }

-- one live place more, in the directory, was replaced: that of the child
abbrev pub with_left : Work → FileId → FileId → Work
with_left work dir child =
    record work { left = work.left ++ record { dir = dir; child = child } ∷ [] }

-- one cell more came from a server that is not sure of it: that of the child in the directory
abbrev pub with_unsure : Work → FileId → FileId → Work
with_unsure work dir child =
    record work { unsure = work.unsure ++ record { dir = dir; child = child } ∷ [] }

-- one intention more began
abbrev pub with_begun : Work → IntentKey → Work
with_begun work key = record work { begun = work.begun ++ key ∷ [] }

-- one message more goes last
abbrev pub with_tail : Work → Sent → Work
with_tail work message = record work { tail = work.tail ++ message ∷ [] }
