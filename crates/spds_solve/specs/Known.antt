-- What is known of both ends of stores, and the pairs of sites that wait for a common call string.
use Rattle.std.specs.Prelude.{◌≡◌, ◌⊎◌, ◌<◌, ℕ, Bool, List, Some, false, length, slice_get}
use Rattle.lists.specs.Lists.{Has}
use Rattle.spds_solve.specs.declared.ends.End.{End}
use Rattle.spds_solve.specs.declared.ends.End.TheVariants.{Arg, Base}
use Rattle.spds_solve.specs.declared.heads.Head.{Head}
use Rattle.spds_solve.specs.declared.known.Known.{Known}
use Rattle.spds_solve.specs.declared.met.Met.{Met}
use Rattle.spds_solve.specs.declared.posts.Post.{Post}
use Rattle.spds_solve.specs.declared.posts.Posts.{Posts}
use Rattle.spds_solve.specs.Heads.{Fit}
use Rattle.spds_solve.specs.Mets.{numbers_of}
use Rattle.spds_solve.specs.Posts.{IsPosted, Knows, post_of}
use Rattle.spds_tables.specs.declared.numbered.Met.{Met as Numbers}
use Rattle.spds_tables.specs.declared.parts.Parts.{Parts}
use Rattle.spds_tables.specs.Parts.{IsInParts}

-- what is known of an end
abbrev pub posts_at : Known → End → Posts
posts_at known Arg = known.args
posts_at known Base = known.bases

-- the meet of the post's site, at this end of its store, with a site at the other
abbrev pub met_at : End → Post → ℕ → Numbers
met_at Arg post other = record { object = post.site; base = other; store = post.store }
met_at Base post other = record { object = other; base = post.site; store = post.store }

-- the site is known at the other end of the post's store by a head that fits
abbrev pub FitsAt : Posts → Post → ℕ → Type 0
FitsAt others post other = (head : Head) × Knows others (post_of post.store head other) × Fit post.head head

-- the site and the store of a post are there
pub record IsInRange (parts : Parts) (post : Post) : Type 0 where
  pub site : post.site < length parts.starts.items
  pub store : post.store < length parts.stores.items

-- the pair is met, or waits
abbrev pub IsSeen : List Met → List Numbers → Numbers → Type 0
IsSeen mets pending m = Has (numbers_of mets) m ⊎ Has pending m

-- each of these pairs waits now, but where it is met, and no other one came
pub record AreSeen (mets : List Met) (These : Numbers → Type 0) (old new : List Numbers) : Type 0 where
  pub kept : (m : Numbers) → Has old m → Has new m
  pub only : (m : Numbers) → Has new m → Has old m ⊎ These m
  pub seen : (m : Numbers) → These m → IsSeen mets new m

-- a pair of the post's site, at this end of its store, with one of these sites at the other
abbrev pub IsPairOf : End → Post → (ℕ → Type 0) → Numbers → Type 0
IsPairOf end post Others m = (other : ℕ) × Others other × (m ≡ met_at end post other)

-- neither site of the pair changed
abbrev pub AreStillAt : List Bool → Numbers → Type 0
AreStillAt changed m = (slice_get changed m.object ≡ Some false) × (slice_get changed m.base ≡ Some false)

-- each post and each pair is in range, and two posts that fit, at the ends of one store, are met or wait
pub record IsKnown (parts : Parts) (mets : List Met) (known : Known) : Type 0 where
  pub args : IsPosted known.args
  pub bases : IsPosted known.bases
  pub in_args : (x : Post) → Knows known.args x → IsInRange parts x
  pub in_bases : (x : Post) → Knows known.bases x → IsInRange parts x
  pub in_pending : (m : Numbers) → Has known.pending.keys m → IsInParts parts m
  pub seen : (store a b : ℕ) (head other : Head) → Knows known.args (post_of store head a) → Knows known.bases (post_of store other b) → Fit head other
      → IsSeen mets known.pending.keys (record { object = a; base = b; store = store })

-- what was known is known
abbrev pub Keeps : Known → Known → Type 0
Keeps old new = (end : End) (x : Post) → Knows (posts_at old end) x → Knows (posts_at new end) x
