-- What is known of the call strings at the ends of stores.
use Rattle.std.specs.Prelude.{◌↔◌, ℕ, ◌+◌, ◌*◌, ◌%◌, ◌^◌}
use Rattle.lists.specs.Lists.{Has}
use Rattle.post_star.specs.declared.key.Key.{Key}
use Rattle.post_star.specs.declared.key.Key.TheVariants.{Marked, Node}
use Rattle.post_star.specs.Groups.{found_at}
use Rattle.spds_solve.specs.declared.heads.Head.{Head}
use Rattle.spds_solve.specs.declared.heads.Head.TheVariants.{Any, Mark}
use Rattle.spds_solve.specs.declared.posts.Post.{Post}
use Rattle.spds_solve.specs.declared.posts.Posts.{Posts}

-- the number by which posts are spread
abbrev pub place_spread : ℕ → Head → ℕ
place_spread place Any = place
place_spread place (Mark mark) = (place + (mark * 14029467366897019727) % 2 ^ 64) % 2 ^ 64

abbrev pub post_spread : Post → ℕ
post_spread post = place_spread (post.store * 2 ^ 32 + post.site) post.head

-- call strings of the site begin so, at the end of the store
abbrev pub post_of : ℕ → Head → ℕ → Post
post_of store head site = record { store = store; head = head; site = site }

-- the key of a head at a store
abbrev pub key_at : ℕ → Head → Key
key_at store Any = Node store
key_at store (Mark mark) = Marked store mark

-- the post is known
abbrev pub Knows : Posts → Post → Type 0
Knows known post = Has known.posts.keys post

-- each post is found by its store and head, and by its store
pub record IsPosted (known : Posts) : Type 0 where
  pub by_head : (store : ℕ) (head : Head) (site : ℕ) → Has (found_at known.by_head (key_at store head)) site ↔ Knows known (post_of store head site)
  pub by_store : (store site : ℕ) → Has (found_at known.by_store (Node store)) site ↔ ((head : Head) × Knows known (post_of store head site))
