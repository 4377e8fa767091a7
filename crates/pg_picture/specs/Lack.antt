-- How it is told what a journal lacks.
use Rattle.std.specs.Prelude.{ℕ, List, codes}
use Rattle.pg_picture.specs.declared.lack.Lack.{Lack}
use Rattle.pg_picture.specs.declared.lack.Lack.TheVariants.{Full, Message, Server, End, Events}

abbrev pub lack_text : Lack → List ℕ
lack_text Full = codes "not in full form"
lack_text Message = codes "no such message is under way"
lack_text Server = codes "no such server"
lack_text End = codes "no end"
lack_text Events = codes "more than 2000 events"
