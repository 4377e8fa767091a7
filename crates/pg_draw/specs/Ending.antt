-- How the program's end is told: by a number, and by a text.
use Rattle.std.specs.Prelude.{ℕ, List, [], ◌++◌, codes, decimal}
use Rattle.pg_call.specs.Fault.{fault_text}
use Rattle.pg_picture.specs.Lack.{lack_text}
use Rattle.pg_draw.specs.declared.ending.Ending.{Ending}
use Rattle.pg_draw.specs.declared.ending.Ending.TheVariants.{Done, Usage, ReadFault, WriteFault, InputLong, BadLine, Lacks, OutOfMemory}

abbrev pub number_of : Ending → ℕ
number_of Done = 0
number_of (Usage word) = 2
number_of ReadFault = 3
number_of WriteFault = 4
number_of InputLong = 8
number_of (BadLine line fault) = 9
number_of (Lacks line lack) = 9
number_of OutOfMemory = 13

-- nothing is said of a good end
abbrev pub ending_text : Ending → List ℕ
ending_text Done = []
ending_text (Usage word) = codes "usage at word " ++ decimal word
ending_text ReadFault = codes "read fault"
ending_text WriteFault = codes "write fault"
ending_text InputLong = codes "input too long"
ending_text (BadLine line fault) =
    codes "line " ++ (decimal line ++ (codes ": " ++ fault_text fault))
ending_text (Lacks line lack) =
    codes "line " ++ (decimal line ++ (codes ": " ++ lack_text lack))
ending_text OutOfMemory = codes "out of memory"
