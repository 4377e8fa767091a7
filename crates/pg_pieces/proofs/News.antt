-- A key that is touched where it is news: nothing is made or sent by it.
use Rattle.std.proofs.Common.{◌≡◌, Bool, true, false, refl}
use Rattle.pg_base.specs.declared.id.FileId.{FileId}
use Rattle.pg_edges.specs.declared.key.Key.{Key}
use Rattle.pg_store.specs.pg_house.pg_msg.declared.work.Work.{Work}
use Rattle.pg_pieces.specs.Taking.{with_news}

pub news_made : (news : Bool) (work : Work) (f : FileId) (k : Key) → (with_news news work f k).made ≡ work.made
news_made true work f k = refl
news_made false work f k = refl

pub news_sent : (news : Bool) (work : Work) (f : FileId) (k : Key) → (with_news news work f k).sent ≡ work.sent
news_sent true work f k = refl
news_sent false work f k = refl

pub news_now : (news : Bool) (work : Work) (f : FileId) (k : Key) → (with_news news work f k).now ≡ work.now
news_now true work f k = refl
news_now false work f k = refl
