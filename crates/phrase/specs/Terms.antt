-- What the words of a phrase's terms say, passed on to the crates above.
pub use Rattle.phrase_starts.specs.Terms.{term_at, GoodTerm, Good, Room, Rarest}
unfoldable pub use Rattle.phrase_starts.specs.Terms.{starts_of, start_lists}
pub use Rattle.phrase_starts.specs.declared.TheConstants.{TERM_WORDS}
