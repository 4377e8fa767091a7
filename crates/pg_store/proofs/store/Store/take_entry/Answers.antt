use Rattle.std.proofs.Common.{sym, ap, ◌∙◌}
use Rattle.pg_store.specs.Store.{is_any_news, is_newer_entry, put_entry}
use Rattle.pg_store.proofs.News.{left_as, taken_if, tells_news}
use Rattle.pg_store.proofs.store.Store.take_entry.Goals as goal

pub returns-then-not-is_any-clause-store : goal.returns-then-not-is_any-clause-store
returns-then-not-is_any-clause-store c =
    let a = c.args.self.now in
    left_as (is_newer_entry a c.args.dir c.args.entry) (is_any_news c.entry_news-news.result) (put_entry a c.args.dir c.args.entry) a
    (tells_news a c.args.dir c.args.entry ∙ ap is_any_news (sym c.entry_news-news.ensures)) (sym c.is_any.ensures ∙ c.if-not-is_any.true)

pub returns-clause-store : goal.returns-clause-store
returns-clause-store c =
    let a = c.args.self.now in
    c.in_ok-put_entry.ensures
    ∙ taken_if (is_newer_entry a c.args.dir c.args.entry) (is_any_news c.entry_news-news.result) (put_entry a c.args.dir c.args.entry) a
    (tells_news a c.args.dir c.args.entry ∙ ap is_any_news (sym c.entry_news-news.ensures)) (sym c.is_any.ensures ∙ c.if-not-is_any.false)
