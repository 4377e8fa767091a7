use Rattle.pg_intentions.proofs.Patched.{is_patched}
use Rattle.pg_intentions.proofs.laws.patches_follow_what_was_left.Goals as goal

pub returns : goal.returns
returns c = λ store work dir child. is_patched dir child store work
