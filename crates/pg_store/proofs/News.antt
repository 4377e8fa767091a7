-- What is news in an entry: it tells whether the entry is news at all.
use Rattle.std.proofs.Common.{◌≡◌, Bool, true, false, cond, not, ◌||◌, Option, None, Some, refl}
use Rattle.pg_base.specs.declared.id.FileId.{FileId}
use Rattle.pg_base.specs.Stamp.{is_before}
use Rattle.pg_register.specs.Flag.{brings_news}
use Rattle.pg_entries.specs.declared.entry.Entry.{Entry}
use Rattle.pg_entries.specs.Entry.{brings, entry_of}
use Rattle.pg_names.specs.Names.{InodeValue, is_entry_new, known}
use Rattle.pg_store.specs.declared.store.Store.{Store}
use Rattle.pg_store.specs.declared.taking.EntryNews.TheVariants as news
use Rattle.pg_store.specs.Store.{entry_news, is_any_news, is_newer_entry, news_beside, news_in}

any_by : (place flags : Bool) → (place || flags) ≡ is_any_news (cond place news.Place (cond (not (place || flags)) news.Nothing news.Flags))
any_by true true = refl
any_by true false = refl
any_by false true = refl
any_by false false = refl

any_beside : (o : Option Entry) (e : Entry) → brings o e ≡ is_any_news (news_beside o e)
any_beside None e = refl
any_beside (Some held) e = any_by (is_before held.place.stamp e.place.stamp) (brings_news held.flags e.flags)

any_in : (o : Option InodeValue) (e : Entry) → is_entry_new o e ≡ is_any_news (news_in o e)
any_in None e = refl
any_in (Some x) e = any_beside (entry_of x.entries e.child) e

pub tells_news : (store : Store) (dir : FileId) (e : Entry) → is_newer_entry store dir e ≡ is_any_news (entry_news store dir e)
tells_news store dir e = any_in (known store.names dir) e

pub taken_if : (t u : Bool) (a b : Store) → t ≡ u → u ≡ true → a ≡ cond t a b
taken_if true u a b same h = refl
taken_if false u a b same h = cc

pub left_as : (t u : Bool) (a b : Store) → t ≡ u → u ≡ false → b ≡ cond t a b
left_as true u a b same h = cc
left_as false u a b same h = refl
