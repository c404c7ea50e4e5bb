pub mod CommentLaws
pub mod MoveLaws
