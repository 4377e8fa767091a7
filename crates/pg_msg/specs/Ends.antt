-- The edge that a message goes along.
use Rattle.pg_msg.specs.declared.message.Ends.{Ends}

-- the same edge, the other way
abbrev pub back : Ends → Ends
back ends = record { file = ends.file; sender = ends.receiver; receiver = ends.sender }
