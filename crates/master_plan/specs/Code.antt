-- What only mirrors private code: nobody has to believe it.
pub mod At
