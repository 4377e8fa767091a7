-- The names of what may be wrong with a line.
use Rattle.std.specs.Prelude.{ℕ, List, codes}
use Rattle.pg_call.specs.declared.fault.Fault.{Fault}
use Rattle.pg_call.specs.declared.fault.Fault.TheVariants.{Byte, Long, End, Header, Verb, Words, Number, Id, Hex, Policy, Mode}

abbrev pub fault_text : Fault → List ℕ
fault_text Byte = codes "Byte"
fault_text Long = codes "Long"
fault_text End = codes "End"
fault_text Header = codes "Header"
fault_text Verb = codes "Verb"
fault_text Words = codes "Words"
fault_text Number = codes "Number"
fault_text Id = codes "Id"
fault_text Hex = codes "Hex"
fault_text Policy = codes "Policy"
fault_text Mode = codes "Mode"
