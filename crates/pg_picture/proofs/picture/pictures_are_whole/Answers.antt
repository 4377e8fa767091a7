use Rattle.pg_picture.proofs.Numbered.{whole_picture}
use Rattle.pg_picture.proofs.picture.pictures_are_whole.Goals as goal

pub returns : goal.returns
returns c = whole_picture
