-- Objects that are put together key by key.
use Rattle.serde_json.specs.Data.{Members}
use Rattle.serde_json.specs.View.{members_view}
use Rattle.samoa_print.specs.declared.object.Object.{Object}

-- the members of an object so far
unfoldable pub members_in : Object → Members
members_in it = members_view it.map.entries
