-- How a command's end is told: by a number, and by a text.
use Rattle.std.specs.Prelude.{ℕ, List, [], ◌++◌, codes, decimal}
use Rattle.pg_call.specs.Fault.{fault_text}
use Rattle.pg_event.specs.declared.status.Status.{Status}
use Rattle.pg_event.specs.declared.status.Status.TheVariants.{Done, Usage, ReadFault, WriteFault, NetFault, DiskFault, InputLong, BadLine, BadLog, TurnsSpent, Refused, OutOfMemory, OtherLog}

abbrev pub number_of : Status → ℕ
number_of Done = 0
number_of (Usage word) = 2
number_of ReadFault = 3
number_of WriteFault = 4
number_of NetFault = 5
number_of DiskFault = 6
number_of InputLong = 8
number_of (BadLine line fault) = 9
number_of (BadLog place) = 10
number_of TurnsSpent = 11
number_of (Refused number) = 12
number_of OutOfMemory = 13
number_of (OtherLog server servers) = 14

-- nothing is said of a good end
abbrev pub status_text : Status → List ℕ
status_text Done = []
status_text (Usage word) = codes "usage at word " ++ decimal word
status_text ReadFault = codes "read fault"
status_text WriteFault = codes "write fault"
status_text NetFault = codes "net fault"
status_text DiskFault = codes "disk fault"
status_text InputLong = codes "input too long"
status_text (BadLine line fault) =
    codes "line " ++ (decimal line ++ (codes ": " ++ fault_text fault))
status_text (BadLog place) = codes "bad log at " ++ decimal place
status_text TurnsSpent = codes "turns spent"
status_text (Refused number) = codes "refused " ++ decimal number
status_text OutOfMemory = codes "out of memory"
status_text (OtherLog server servers) =
    codes "log of " ++ (decimal server ++ (codes " of " ++ decimal servers))
