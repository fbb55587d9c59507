-- A sweep: the sessions whose grace is over expire, and the others see the moment.
use Rattle.std.specs.Prelude.{ℕ, List, [], ◌∷◌, map, filter, option_map}
use Rattle.std.specs.List.{list_any}
use Rattle.std.specs.BTreeSet.{insert_key}
use Rattle.ra_base.specs.Keys.{key_cmp}
use Rattle.ra_base.specs.declared.key.Key.{Key}
use Rattle.ra_registry.specs.Expiry.{expiry_of}
use Rattle.ra_registry.specs.RegistryStates.{with_entries}
use Rattle.ra_registry.specs.Rows.{same_key}
use Rattle.ra_hub.specs.Hubs.{Hub}
use Rattle.ra_hub.specs.Sweeps.{swept, grace_is_over}
use Rattle.ra_grand_runs.specs.Grands.{Grand}
use Rattle.ra_grand_runs.specs.Marks.{Mark, whole, short, unticked}

-- keys in their order, each once
abbrev pub in_order : List Key → List Key
in_order [] = []
in_order (k ∷ ks) = insert_key key_cmp (in_order ks) k

-- the keys whose rows expire, of all that the history names
unfoldable pub expired_keys : Grand → List Key
expired_keys w = in_order (filter (grace_is_over w.hub w.now) (map (λ e. e.key) w.hub.registry.history))

-- each session, but for these, becomes what its row, its own state and the moment say
abbrev pub swept_hub : ℕ → List Key → List Key → Hub → Hub
swept_hub now expired left h = record {
  registry = with_entries h.registry (map (expiry_of now) expired);
  session = λ key. option_map (swept (grace_is_over h now key) (list_any (same_key key) left) now) (h.session key);
}

-- the sessions that found no memory
abbrev pub left_by : Mark → List Key
left_by whole = []
left_by (short draws calls bytes) = []
left_by (unticked keys) = keys

unfoldable pub sweeps : Mark → Grand → Grand
sweeps mark w = record w { hub = swept_hub w.now (expired_keys w) (left_by mark) w.hub }
