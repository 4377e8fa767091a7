use Rattle.pangaea.proofs.citing.laws_are_cited.Goals as goal

pub returns : goal.returns
returns c = λ n. record {
  order = record {
    order = c.house_is_in_order.ensures n;
    whole = c.servers_are_whole.ensures.whole n;
    first = c.servers_are_whole.ensures.first n;
    ordered = c.servers_are_whole.ensures.ordered n;
    by_id = c.servers_are_whole.ensures.order n;
    named = c.all_is_named.ensures.named n;
    placed = c.all_is_named.ensures.placed n;
    distinct = c.all_is_named.ensures.distinct n;
    told = c.all_is_named.ensures.told n;
    births = c.what_begins_is_new.ensures.births n;
    ids = c.what_begins_is_new.ensures.ids n;
    away = c.what_begins_is_new.ensures.away n;
  };
  views = record {
    fronts = c.views_are_prefixes.ensures.fronts n;
    grow = c.views_are_prefixes.ensures.grow n;
    sent = c.messages_are_of_views.ensures.sent n;
    mailed = c.messages_are_of_views.ensures.views n;
    rests = c.removed_servers_rest.ensures.rests n;
    none_to_removed = c.removed_servers_rest.ensures.none n;
  };
  intents = record {
    order = c.intentions_are_in_order.ensures n;
    still = c.nothing_is_left_to_do.ensures.still n;
    asked = c.nothing_is_left_to_do.ensures.asked n;
  };
  contents = record {
    held = c.contents_are_states.ensures n;
    heads = c.states_are_heads.ensures.heads n;
    determined = c.states_are_heads.ensures.determined n;
    made = c.runs_make_histories.ensures.histories n;
    one = c.runs_make_histories.ensures.one n;
    stamps = c.stamps_are_drawn_once.ensures n;
    ancestry = c.runs_make_histories.ensures.ancestry n;
    carried = c.runs_make_histories.ensures.carried n;
    clock = c.clocks_end_first.ensures n;
    announced = c.sources_announced.ensures n;
    asked = c.one_is_asked.ensures n;
    kept = c.kept_deltas_are_latest.ensures n;
  };
  bodies = record {
    answers = c.bodies_answer_wants.ensures n;
    shortest = c.wants_get_the_shortest_change.ensures n;
    first = c.first_harbingers_ask.ensures n;
    one_in_each = c.an_event_asks_one.ensures n;
  };
  edges = record {
    whole = c.runs_keep_edges.ensures.whole n;
    had = c.runs_keep_edges.ensures.had n;
    runs = c.runs_grow.ensures.runs n;
    grow = c.runs_grow.ensures.events n;
    acts = c.runs_keep_edges.ensures.acts n;
    placed = c.full_replicas_have_places.ensures.placed n;
    said = c.full_replicas_have_places.ensures.said n;
    alone = c.births_are_alone.ensures.alone n;
    of_one = c.births_are_alone.ensures.apart n;
    greater = c.edges_follow_births.ensures.greater n;
    linked = c.edges_follow_births.ensures.sender n;
    asked_linked = c.asks_link_the_asker.ensures n;
    moves = c.births_move_on.ensures.events n;
    on = c.births_move_on.ensures.runs n;
    stay = c.births_move_on.ensures.replicas n;
    gone = c.gone_stays_gone.ensures n;
    known = c.births_are_known.ensures n;
  };
  drops = record {
    edges = c.events_of_leaving.ensures.edges n;
    ends = c.events_of_leaving.ensures.ends n;
    over = c.events_of_leaving.ensures.over n;
    begin = c.events_of_leaving.ensures.begin n;
    told = c.events_of_leaving.ensures.told n;
    answered = c.events_of_leaving.ensures.answered n;
    went = c.what_went_is_over.ensures.went n;
    byes = c.what_went_is_over.ensures.byes n;
    heard = c.heard_edges_are_known.ensures n;
    cells = c.drops_leave_all.ensures.cells n;
    safe = c.drops_are_safe.ensures n;
  };
  flags = record {
    own = c.flags_are_own.ensures.own n;
    made = c.flags_are_own.ensures.made n;
    numbers = c.flags_are_own.ensures.numbers n;
    known = c.flags_are_own.ensures.known n;
    golds = c.golds_are_seen.ensures n;
    named = c.golds_are_named.ensures n;
  };
  names = record {
    one_place = c.one_place_a_stamp.ensures n;
    made = c.places_were_made.ensures.made n;
    own = c.places_were_made.ensures.own n;
    past = c.places_were_made.ensures.past n;
    known = c.what_is_carried_is_known.ensures n;
    merge = c.names_are_what_was_taken.ensures n;
    determined = c.names_are_determined.ensures n;
    justified = c.returns_are_justified.ensures.justified n;
    returns_list = c.returns_list_a_child.ensures n;
    removals_stay = c.removals_stay.ensures n;
    forgets_stay = c.forgets_stay.ensures n;
    owed = c.ticks_send_what_is_owed.ensures n;
    lost = c.restarts_lose_wishes.ensures n;
    refused = c.refusals_change_nothing.ensures n;
    listed = c.listings_are_kept.ensures.kept n;
    confirms = c.confirms_begin_and_stay.ensures n;
  };
  quiet = record {
    stores = c.quiet_stores_agree.ensures n;
    joined = c.quiet_servers_agree.ensures.joined n;
    agree = c.quiet_servers_agree.ensures.connected n;
    tree = c.quiet_names_form_a_tree.ensures.tree n;
    only = c.quiet_names_form_a_tree.ensures.listed n;
    back = c.quiet_names_form_a_tree.ensures.returned n;
  };
  repairs = record {
    begins = c.full_replicas_come.ensures.begins n;
    said = c.full_replicas_come.ensures.said n;
    stays = c.full_replicas_stay.ensures n;
    raise_none = c.golds_raise_none.ensures n;
    kept = c.kept_things_are_connected.ensures n;
    agree = c.kept_runs_are_repaired.ensures.agree n;
    tree = c.kept_runs_are_repaired.ensures.tree n;
    listed = c.kept_runs_are_repaired.ensures.listed n;
    back = c.kept_runs_are_repaired.ensures.back n;
  };
}
