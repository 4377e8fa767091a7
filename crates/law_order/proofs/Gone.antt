-- A replica goes: what is left is in order, all of it is said, and the server is sound.
use Rattle.std.proofs.Common.{ℕ, ◌≡◌, not, false, ap, ◌∙◌}
use Rattle.std.specs.BTreeMap.{is_at}
use Rattle.law_frame.specs.pg_run.pg_base.declared.id.FileId.{FileId}
use Rattle.law_frame.specs.pg_run.pg_base.Id.{file_cmp, is_same_file}
use Rattle.law_frame.specs.pg_run.pg_names.Names.{NamesValue, is_full_of, let_go as let_go_names}
use Rattle.law_frame.proofs.pg_run.pg_names.Gone.{gone_cell, gone_other, gone_own, gone_stayed}
use Rattle.law_frame.specs.pg_run.pg_register.Place.{root}
use Rattle.law_frame.proofs.pg_run.pg_replica.Merging.{sorted_filter}
use Rattle.law_frame.specs.pg_run.pg_store.declared.store.Store.{Store}
use Rattle.law_frame.specs.pg_run.pg_store.Beginning.{let_go}
use Rattle.law_frame.proofs.pg_run.pg_store.Going.{go_births}
use Rattle.law_frame.proofs.pg_run.theory_flood_pieces.Leaving.{whole_gone}
use Rattle.law_order.specs.Saying.{IsSaidOf, Saying}
use Rattle.law_order.specs.Sound.{AreTidy}
use Rattle.law_order.proofs.Sounding.{Sound}

-- of what is not the root
tidy_gone : (s : NamesValue) (f : FileId) → is_same_file f root ≡ false → AreTidy s → AreTidy (let_go_names s f)
tidy_gone s f apart k = record {
  ordered = λ q x h. k.ordered q x (gone_stayed s f q x h).1;
  keys = sorted_filter file_cmp (λ q. not (is_at (file_cmp f) q)) s.held k.keys;
  top = ap is_full_of (gone_other s f root apart) ∙ k.top;
}

said_gone : (p : Saying) (s : NamesValue) (f : FileId) → IsSaidOf p s → IsSaidOf p (let_go_names s f)
said_gone p s f k = record {
  own = λ q o h. k.own q o (gone_own s f q o h).1;
  cells = λ d g e h. k.cells d g e (gone_cell s f d g e h).1;
}

-- A REPLICA GOES
pub sound_gone : (p : Saying) (n s : ℕ) (a : Store) (f : FileId) → is_same_file f root ≡ false → Sound p n s a → Sound p n s (let_go a f)
sound_gone p n s a f apart k = record {
  whole = whole_gone n s a f k.whole;
  births = go_births a f k.births;
  keys = k.keys;
  named = record {
    tidy = tidy_gone a.names f apart k.named.tidy;
    said = said_gone p a.names f k.named.said;
    intents = k.named.intents;
  };
}
