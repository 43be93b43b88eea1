-- No home of the pair is unread.
use Rattle.std.proofs.Common.{◌≡◌, subst}
use Rattle.nd_types.specs.declared.interface.Interface.{Interface}
use Rattle.nd_value.specs.Setting.{unread}
use Rattle.nd_value.specs.Tree.{Tree, node}
use Rattle.nd_flat.specs.Building.{HasNoUnread, closed}
use Rattle.nd_flat.specs.FlatForm.{IsKeepable}
use Rattle.test_graph.specs.Built.{with_leaves}

abbrev IsRead : Tree → Type 0
IsRead (node l ks) = IsKeepable l

is_read : (t : Tree) → IsRead t → t ≡ unread → ⊥
is_read t read e = subst IsRead e read

pub no_unread : (i : Interface) → HasNoUnread (closed (with_leaves i))
no_unread i = record {
  roots = (is_read _ tt, tt);
  cells = (is_read _ tt, (is_read _ tt, (is_read _ tt, (is_read _ tt, tt))));
}
